-- What a node wants, as the definitions have it.
use Rattle.kube_objects.specs.Tainting as tainting
use Rattle.node_taints.specs.declared.wants.Wants.{Wants}
use Rattle.node_taints.specs.declared.wants.Wants.TheVariants.{Nothing, Wanted, Whatever}

abbrev pub wants_of : Wants → tainting.Wants
wants_of Nothing = tainting.Nothing
wants_of (Wanted key) = tainting.Wanted key
wants_of Whatever = tainting.Whatever
