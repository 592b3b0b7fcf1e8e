-- The members of an object that is being written, as `serde_json` has them.
use Rattle.serde_json.specs.Data as json
use Rattle.serde_json.specs.View.{members_view}
use Rattle.manifest_json.specs.declared.write.members.Members.{Members}

abbrev pub seen : Members → json.Members
seen m = members_view m.map.entries
