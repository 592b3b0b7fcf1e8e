-- The members of an object, and the data that they are.
use Rattle.std.specs.Prelude.{ℕ, pos, neg_ℤ, List, [], ◌∷◌}
use Rattle.serde_json.specs.Data.{Data, null, boolean, number, unsigned, negative, string, object, Members, no_members, member}
use Rattle.lens_json.specs.declared.member.Member.{Member}
use Rattle.lens_json.specs.declared.member.Value.{Value}
use Rattle.lens_json.specs.declared.member.Value.TheVariants.{Nothing, Truth, Number, Large, Below, Text}

-- a name, and what is named
abbrev pub Named : Type 0
Named = List ℕ × Data

abbrev pub nat : List ℕ → ℕ → Named
nat name n = (name, number (unsigned n))

abbrev pub text : List ℕ → List ℕ → Named
text name t = (name, string t)

abbrev pub data_of : Value → Data
data_of Nothing = null
data_of (Truth b) = boolean b
data_of (Number n) = number (unsigned n)
data_of (Large n) = number (unsigned n)
data_of (Below n) = number (negative (neg_ℤ (pos n)))
data_of (Text shown) = string shown.now

abbrev pub named : Member → Named
named m = (m.name.now, data_of m.value)

abbrev pub members_of : List Named → Members
members_of [] = no_members
members_of (m ∷ ms) = member m.0 m.1 (members_of ms)

-- the object of these members, in their order
abbrev pub object_of : List Named → Data
object_of ms = object (members_of ms)
