-- Kubelets.
use Rattle.std.specs.Prelude.{◌≡◌, true, false, [], ◌∷◌}
use Rattle.kube_objects.specs.declared.deed.Act.TheVariants as act
use Rattle.kube_objects.specs.declared.node.ReadyStatus.TheVariants as ready
use Rattle.kube_objects.specs.declared.node.ZoneState.TheVariants as zone
use Rattle.kube_objects.specs.Document.{Doc, own_waits_each}
use Rattle.kube_objects.specs.Stored.{node_lease}
use Rattle.history.specs.History.{whole_history}
use Rattle.history.specs.Printed.{printed}
use Rattle.history_examples.specs.Documents.{settings, c1, at_beat, loss, crash, line, create, update, lead}
use Rattle.history_examples.specs.Clusters.{n1, long_lease, steady, kubelet, bare_node, done}

-- A kubelet crashes. The pass of beat 54 sees the first renew time of its Lease, so that of beat 454 is exactly at probe plus grace
-- and does nothing; that of beat 504 marks the node.
abbrev pub silent_kubelet : Doc
silent_kubelet = record {
  settings = long_lease (settings 504);
  controllers = steady c1 ∷ [];
  kubelets = kubelet n1 ∷ [];
  waits = own_waits_each (steady c1 ∷ []);
  objects = bare_node n1
      ∷ [];
  events = at_beat 100 (crash 1)
      ∷ [];
}

abbrev pub SilentKubelet : Type 0
SilentKubelet = printed (whole_history silent_kubelet) ≡
    line 0 0 1 act.Start
    ∷ line 0 1 1 act.Start
    ∷ line 1 1 1 (act.Posted n1 ready.True (done 2))
    ∷ line 3 0 1 (create 3)
    ∷ line 4 0 1 (lead 3)
    ∷ line 4 0 1 (act.Zone 0 0 zone.Normal 100)
    ∷ line 5 1 1 (act.Create (node_lease n1) (done 4) 0)
    ∷ line 7 0 1 (update 5 0)
    ∷ line 100 1 1 act.Crash
    ∷ line 504 0 1 (act.Marked n1 3 (done 6))
    ∷ line 504 0 1 (act.Mode true)
    ∷ line 504 0 1 (act.Zone 0 0 zone.Full 0)
    ∷ []

-- The post of beat 0 is lost, and its expiry at beat 21 is followed by the Get. The reply to that is lost, so the round ends at beat
-- 42. The create of the round of beat 100 is lost; the round of beat 200 has all its calls.
abbrev pub lost_calls : Doc
lost_calls = record {
  settings = long_lease (settings 206);
  controllers = steady c1 ∷ [];
  kubelets = kubelet n1 ∷ [];
  waits = own_waits_each (steady c1 ∷ []);
  objects = bare_node n1
      ∷ [];
  events = at_beat 0 (loss 1 true false)
      ∷ at_beat 1 (loss 1 false false)
      ∷ at_beat 22 (loss 1 false true)
      ∷ at_beat 23 (loss 1 false false)
      ∷ at_beat 104 (loss 1 true false)
      ∷ at_beat 105 (loss 1 false false)
      ∷ [];
}

abbrev pub LostCalls : Type 0
LostCalls = printed (whole_history lost_calls) ≡
    line 0 0 1 act.Start
    ∷ line 0 1 1 act.Start
    ∷ line 3 0 1 (create 2)
    ∷ line 4 0 1 (lead 2)
    ∷ line 4 0 1 (act.Mode true)
    ∷ line 4 0 1 (act.Zone 0 0 zone.Full 0)
    ∷ line 7 0 1 (update 3 0)
    ∷ line 101 1 1 (act.Posted n1 ready.True (done 4))
    ∷ line 104 0 1 (act.Mode false)
    ∷ line 104 0 1 (act.Zone 0 0 zone.Normal 100)
    ∷ line 205 1 1 (act.Create (node_lease n1) (done 5) 0)
    ∷ []
