-- Kubelets. Each is shown by computation.
use Rattle.std.specs.Prelude.{refl}
use Rattle.kube_objects.specs.Document.{of_seconds, of_millis}
use Rattle.kube_objects.specs.Tokens.{token_size}
use Rattle.history_examples.specs.Kubelets.{SilentKubelet, LostCalls}

pub silent_kubelet : SilentKubelet
unfolding of_seconds of_millis token_size
silent_kubelet = refl

pub lost_calls : LostCalls
unfolding of_seconds of_millis token_size
lost_calls = refl
