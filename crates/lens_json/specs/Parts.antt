-- The members of a whole answer, and the data that they are.
use Rattle.std.specs.Prelude.{List, [], ◌∷◌, map}
use Rattle.serde_json.specs.Data.{Data, array, Items, no_items, item}
use Rattle.lens_json.specs.Members.{Named, named, data_of, object_of}
use Rattle.lens_json.specs.declared.part.Object.{Object}
use Rattle.lens_json.specs.declared.part.Part.{Part}
use Rattle.lens_json.specs.declared.part.What.{What}
use Rattle.lens_json.specs.declared.part.What.TheVariants as what

abbrev pub members_in : Object → List Named
members_in o = map named o.members.items

abbrev pub items_of : List (List Named) → Items
items_of [] = no_items
items_of (ms ∷ more) = item (object_of ms) (items_of more)

-- the list of the objects of these members
abbrev pub list_of : List (List Named) → Data
list_of objects = array (items_of objects)

abbrev pub what_of : What → Data
what_of (what.Value value) = data_of value
what_of (what.Object object) = object_of (members_in object)
what_of (what.List objects) = list_of (map members_in objects.items)

abbrev pub part_of : Part → Named
part_of p = (p.name.now, what_of p.what)
