-- How long a pod bears taints at most: seconds are a signed number of 64 bits.
use Rattle.std.specs.Prelude.{◌<◌, ◌^◌}
use Rattle.kube_objects.specs.declared.pod.Bears.{Bears}
use Rattle.kube_objects.specs.declared.pod.Bears.TheVariants.{For}

abbrev pub IsBounded : Bears → Type 0
IsBounded (For micros) = micros < 2 ^ 84
IsBounded _ = Unit {0}
