-- What an entry does to the election Lease: nothing, or it is an object of the document, or a controller's write.
use Rattle.std.proofs.Common.{◌≡◌, ◌≤◌, ℕ, suc, nat_lt, Bool, true, false, List, ◌∷◌, Option, Some, None, refl, sym, ap, ◌∙◌}
use Rattle.kube_objects.specs.declared.call.Reply.{Reply}
use Rattle.kube_objects.specs.declared.deed.Actor.{Actor}
use Rattle.kube_objects.specs.declared.key.Key.{Key}
use Rattle.kube_objects.specs.declared.object.Object.{Object}
use Rattle.kube_objects.specs.Document.{Doc, end_beat, is_controller}
use Rattle.kube_objects.specs.Entry.{Entry, Call, Fact, First as FirstPut, Event as Happens, Starts, Stops, Sends, Answers, Delivers, Expires, Leads, Ends, Crashes, Stalls, Ticks}
use Rattle.kube_objects.specs.Keys.{key_eq}
use Rattle.kube_objects.specs.Newest.{newest, when, only_if, join}
use Rattle.kube_objects.specs.Own.{ReleasesByStop}
use Rattle.kube_objects.specs.Stored.{election, event_write, request_write, at_key, write_of, held_as, holds, last_write, next_version, stored}
use Rattle.kube_objects.specs.Wire.{Back, back_of}
use Rattle.history.specs.History.{history}
use Rattle.history.specs.Sound.{IsSound}
use Rattle.history.specs.Steps.{stamp}
use Rattle.history_laws.specs.Tails.{IsTail}
use Rattle.history_laws.proofs.Plainly.{upper, true_is}
use Rattle.lease_laws.proofs.EachKind.{elsewhere}
use Rattle.lease_laws.proofs.Quiet.{stored_tick}
use Rattle.lease_laws.proofs.Steps.{sound_of}
use Rattle.call_laws.proofs.Above.{in_head}
use Rattle.call_laws.proofs.Making.{MadeAs, MadeAnswer, are_made}
use Rattle.takeover_laws.proofs.Records.{asks_elsewhere, wrote_key}
use Rattle.calm_laws.specs.Bounds.{early_write, early_record}
use Rattle.calm_laws.proofs.Looks.{object_of}

-- it writes it in no sense
pub record IsUnwritten (x : Entry) (T : List Entry) : Type 0 where
  pub same : stored election (x ∷ T) ≡ stored election T
  pub early : (a : ℕ) → early_write a x.fact ≡ None

-- an object of the document is put there
pub record IsPut (x : Entry) : Type 0 where
  pub key : Key
  pub object : Object
  pub fact : x.fact ≡ FirstPut key object
  pub first : x.beat ≡ 0
  pub write : at_key election (write_of x.fact) ≡ Some (Some object)
  pub early : (a : ℕ) → early_write a x.fact ≡ Some (Some object)

-- the answer to a controller's call wrote it
pub record IsWritten (doc : Doc) (x : Entry) (T : List Entry) : Type 0 where
  pub call : Call
  pub reply : Reply
  pub comes : Option ℕ
  pub wrote : Option Object
  pub fact : x.fact ≡ Answers call reply comes wrote
  pub who : Actor
  pub actor : x.actor ≡ who
  pub made : MadeAnswer doc x.beat x.step who call reply comes wrote T
  pub role : is_controller doc made.s.who.process ≡ true
  pub object : Option Object
  pub is : at_key election (request_write call.request wrote) ≡ Some object

pub data Change (doc : Doc) (x : Entry) (T : List Entry) : Type 0 where
  Unwritten : (u : IsUnwritten x T) → Change doc x T
  Put : (p : IsPut x) → Change doc x T
  Written : (w : IsWritten doc x T) → Change doc x T

-- what is stored after a write
pub stored_as : (x : Entry) (T : List Entry) (o : Option Object) → at_key election (write_of x.fact) ≡ Some o → object_of (stored election (x ∷ T)) ≡ o
stored_as x T o write = ap (λ w. object_of (join (upper (holds T x.beat x.actor w) (last_write election T)))) write ∙ by_object o
  where
    by_object : (o : Option Object) → object_of (held_as (next_version T) x.beat x.actor o) ≡ o
    by_object None = refl
    by_object (Some y) = refl

-- ---- the last record of a call that was sent before beat a, or of the document

-- it is stored
abbrev pub IsStored : ℕ → List Entry → Type 0
IsStored a h = object_of (stored election h) ≡ early_record a h

-- and so after an entry that changes neither
pub unchanged : (a : ℕ) (x : Entry) (T : List Entry) → IsUnwritten x T → IsStored a T → IsStored a (x ∷ T)
unchanged a x T u s = ap object_of u.same ∙ s ∙ sym (ap (λ o. join (upper o (newest (λ e before. early_write a e.fact) T))) (u.early a))

-- or that changes both
both_changed : (a : ℕ) (x : Entry) (T : List Entry) (o : Option Object) → at_key election (write_of x.fact) ≡ Some o → early_write a x.fact ≡ Some o → IsStored a (x ∷ T)
both_changed a x T o write early = stored_as x T o write ∙ sym (ap (λ w. join (upper w (newest (λ e before. early_write a e.fact) T))) early)

pub put_stored : (a : ℕ) (x : Entry) (T : List Entry) → IsPut x → IsStored a (x ∷ T)
put_stored a x T p = both_changed a x T (Some p.object) p.write (p.early a)

pub early_stored : (doc : Doc) (a : ℕ) (x : Entry) (T : List Entry) (w : IsWritten doc x T) → nat_lt w.call.sent a ≡ true → IsStored a (x ∷ T)
early_stored doc a x T w early =
    both_changed a x T w.object (ap (λ d. at_key election (write_of d)) w.fact ∙ w.is)
    (ap (early_write a) w.fact ∙ ap (only_if (nat_lt w.call.sent a)) w.is ∙ ap (λ b. only_if b (Some w.object)) early)

-- ---- every kind of entry

pub change_of : (doc : Doc) → IsSound doc → ReleasesByStop doc → (n : ℕ) → n ≤ end_beat doc → (x : Entry) (T : List Entry) → IsTail (x ∷ T) (history doc (suc n)) → Change doc x T
change_of doc sound rules n end x T at = cases x.actor x.fact refl refl (are_made doc rules (suc n) x T at)
  where
    unwritten : (d : Fact) → x.fact ≡ d → at_key election (write_of d) ≡ None → ((a : ℕ) → early_write a d ≡ None) → Change doc x T
    unwritten d fact none early =
        Unwritten (record {
          same = ap (λ d. join (upper (holds T x.beat x.actor (at_key election (write_of d))) (last_write election T))) fact ∙ ap (λ o. join (upper (holds T x.beat x.actor o) (last_write election T))) none;
          early = λ a. ap (early_write a) fact ∙ early a;
        })

    no_value : (b : Bool) → only_if {A = Option Object} b None ≡ None
    no_value true = refl
    no_value false = refl

    cases : (who : Actor) (d : Fact) → x.actor ≡ who → x.fact ≡ d → MadeAs doc x.beat x.step who d T → Change doc x T
    cases who (FirstPut key object) actor fact made = by_key (key_eq key election) refl
      where
        by_key : (b : Bool) → key_eq key election ≡ b → Change doc x T
        by_key true is =
            Put (record {
              key = key;
              object = object;
              fact = fact;
              first = made;
              write = ap (λ d. at_key election (write_of d)) fact ∙ ap (λ b. when b (Some object)) is;
              early = λ a. ap (early_write a) fact ∙ ap (λ b. when b (Some object)) is;
            })
        by_key false is = unwritten (FirstPut key object) fact (ap (λ b. when b (Some object)) is) (λ a. ap (λ b. when b (Some object)) is)
    cases who (Happens w version) actor fact made =
        unwritten (Happens w version) fact
        (ap (λ w. at_key election (event_write w version)) made.3 ∙ ap (λ v. at_key election (event_write (stamp doc x.beat made.1) v)) made.4 ∙ elsewhere doc x.beat made.1 T (sound_of doc x.beat made.1 sound made.2))
        (λ a. refl)
    cases who (Ticks t) actor fact made =
        Unwritten (record {
          same = ap (λ d. join (upper (holds T x.beat x.actor (at_key election (write_of d))) (last_write election T))) fact
              ∙ ap (λ who. join (upper (holds T x.beat who (at_key election (write_of (Ticks t)))) (last_write election T))) (actor ∙ made.1) ∙ stored_tick doc x.beat made.0 t T made.2;
          early = λ a. ap (early_write a) fact;
        })
    cases who (Answers call reply comes wrote) actor fact made = by_write (at_key election (request_write call.request wrote)) refl
      where
        by_role : (o : Option Object) → at_key election (request_write call.request wrote) ≡ Some o → (b : Bool) → is_controller doc made.s.who.process ≡ b → Change doc x T
        by_role o is true role =
            Written (record { call = call; reply = reply; comes = comes; wrote = wrote; fact = fact; who = who; actor = actor; made = made; role = role; object = o; is = is })
        by_role o is false role =
            absurd (true_is (sym (wrote_key call.request wrote o is) ∙ asks_elsewhere doc sound rules n end x back (in_head x T (history doc (suc n)) at)
            (ap (λ d. back_of x.actor d) fact ∙ ap (λ who. back_of who (Answers call reply comes wrote)) (actor ∙ made.by)) role))
          where
            back : Back
            back = record { who = made.s.who; call = call; reply = reply; comes = comes }

        by_write : (o : Option (Option Object)) → at_key election (request_write call.request wrote) ≡ o → Change doc x T
        by_write None is = unwritten (Answers call reply comes wrote) fact is (λ a. ap (only_if (nat_lt call.sent a)) is ∙ no_value (nat_lt call.sent a))
        by_write (Some o) is = by_role o is (is_controller doc made.s.who.process) refl
    cases who (Sends call arrives) actor fact made = unwritten (Sends call arrives) fact refl (λ a. refl)
    cases who (Delivers call reply counted) actor fact made = unwritten (Delivers call reply counted) fact refl (λ a. refl)
    cases who (Expires call) actor fact made = unwritten (Expires call) fact refl (λ a. refl)
    cases who Starts actor fact made = unwritten Starts fact refl (λ a. refl)
    cases who Crashes actor fact made = unwritten Crashes fact refl (λ a. refl)
    cases who Stops actor fact made = unwritten Stops fact refl (λ a. refl)
    cases who (Stalls beats) actor fact made = unwritten (Stalls beats) fact refl (λ a. refl)
    cases who Ends actor fact made = unwritten Ends fact refl (λ a. refl)
    cases who (Leads version) actor fact made = unwritten (Leads version) fact refl (λ a. refl)
    cases who d actor fact made = absurd made
