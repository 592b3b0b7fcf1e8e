-- Layer 2, what a history keeps: the objects of a document, put before beat 0.
use Rattle.std.proofs.Common.{◌≡◌, ℕ, List, [], ◌∷◌, ◌++◌, refl, ◌∙◌}
use Rattle.std.proofs.lemmas.List.{append-nil}
use Rattle.kube_objects.specs.declared.key.Key.{Key}
use Rattle.kube_objects.specs.declared.object.Object.{Object}
use Rattle.kube_objects.specs.Clocks.{store_wall, whole_second}
use Rattle.kube_objects.specs.Document.{Doc}
use Rattle.kube_objects.specs.Entry.{Entry, First, script_entry}
use Rattle.kube_objects.specs.InFlight.{requests_due, replies_due}
use Rattle.kube_objects.specs.Stamps.{stamped}
use Rattle.history.specs.History.{put_all}
use Rattle.history.specs.Printed.{printed}
use Rattle.wire_calls.specs.declared.wire.Wire.{Wire}
use Rattle.wire_calls.specs.WireStands.{WireStands}
use Rattle.wire_calls.proofs.Frames.{wire-beside}
use Rattle.world_process.specs.declared.in_force.InForce.{InForce}
use Rattle.world_process.specs.declared.process.Process.{Process}
use Rattle.world_process.specs.InForce.{InForceStands}
use Rattle.world_process.specs.Plain.{IsPlain}
use Rattle.world_core.specs.Worlds.{EachStands}
use Rattle.world_process.proofs.Forces.{in_force-beside}
use Rattle.world_process.proofs.Processes.{process-put_all}
use Rattle.world_process.proofs.Scripted.{plain-script}

-- the entry of an object
abbrev pub put_first : Doc → Key × Object → Entry
put_first doc x = script_entry 0 0 (First x.0 (stamped (whole_second (store_wall doc 0)) x.1))

pub put-plain : (doc : Doc) (n : ℕ) (xs : List (Key × Object)) (h : List Entry) → IsPlain n h → IsPlain n (put_all doc xs h)
put-plain doc n [] h s = s
put-plain doc n (x ∷ xs) h s = put-plain doc n xs (put_first doc x ∷ h) (plain-script n 0 0 (First x.0 (stamped (whole_second (store_wall doc 0)) x.1)) h s)

pub put-wire : (doc : Doc) (n : ℕ) (xs : List (Key × Object)) (h : List Entry) (w : Wire) → WireStands n 0 [] [] h w → WireStands n 0 [] [] (put_all doc xs h) w
put-wire doc n [] h w s = s
put-wire doc n (x ∷ xs) h w s = put-wire doc n xs (put_first doc x ∷ h) w (wire-beside n 0 [] [] h (put_first doc x) w refl s)

pub put-each : (doc : Doc) (xs : List (Key × Object)) (h : List Entry) (cs : List Process) → EachStands doc h cs → EachStands doc (put_all doc xs h) cs
put-each doc xs h cs s p c is = process-put_all doc p xs h c (s p c is)

pub put-in_force : (doc : Doc) (xs : List (Key × Object)) (h : List Entry) (x : InForce) → InForceStands doc h x → InForceStands doc (put_all doc xs h) x
put-in_force doc [] h x s = s
put-in_force doc (y ∷ ys) h x s = put-in_force doc ys (put_first doc y ∷ h) x (in_force-beside doc (put_first doc y) h x refl s)

pub put-requests : (doc : Doc) (j : ℕ) (xs : List (Key × Object)) (h : List Entry) → requests_due j (put_all doc xs h) ≡ requests_due j h
put-requests doc j [] h = refl
put-requests doc j (x ∷ xs) h = put-requests doc j xs (put_first doc x ∷ h)

pub put-replies : (doc : Doc) (j : ℕ) (xs : List (Key × Object)) (h : List Entry) → replies_due j (put_all doc xs h) ≡ replies_due j h
put-replies doc j [] h = refl
put-replies doc j (x ∷ xs) h = put-replies doc j xs (put_first doc x ∷ h)

-- nothing of it is printed
pub put-printed : (doc : Doc) (xs : List (Key × Object)) (h : List Entry) → printed (put_all doc xs h) ≡ printed h
put-printed doc [] h = refl
put-printed doc (x ∷ xs) h = put-printed doc xs (put_first doc x ∷ h) ∙ append-nil (printed h)

-- one object more
pub put-more : (doc : Doc) (xs : List (Key × Object)) (x : Key × Object) (h : List Entry) → put_all doc (xs ++ x ∷ []) h ≡ put_first doc x ∷ put_all doc xs h
put-more doc [] x h = refl
put-more doc (y ∷ ys) x h = put-more doc ys x (put_first doc y ∷ h)
