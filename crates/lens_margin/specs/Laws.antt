-- What the numbers of a margin are: the least and the greatest for which the lease premise's own tests hold.
use Rattle.std.specs.Prelude.{◌≡◌, ℕ, zero, suc, ◌+◌, ◌*◌, ◌<◌, ◌≤◌, ◌&&◌, Bool, true, List, [], ◌∷◌, length, map, Option, Some, None}
use Rattle.kube_objects.specs.Document.{Doc, beat_micros, of_millis}
use Rattle.kube_objects.specs.declared.rules.RespectRule.{RespectRule}
use Rattle.kube_objects.specs.declared.rules.RespectRule.TheVariants as respects
use Rattle.kube_objects.specs.declared.script.Proc.{Proc}
use Rattle.kube_objects.specs.declared.script.What.TheVariants.{Pause}
use Rattle.history.specs.Premise.{calls_late, span_by, stall_by, is_long, answers_come}
use Rattle.script_reader.specs.Leases.{waited_seconds}
use Rattle.lens_margin.specs.declared.margin.Margin.{Margin}
use Rattle.lens_margin.specs.Margins.{fastest, slowest, margin_of}

pub record IsLeast (P : ℕ → Type 0) (n : ℕ) : Type 0 where
  pub holds : P n
  pub least : (m : ℕ) → P m → n ≤ m

pub record IsGreatest (P : ℕ → Type 0) (n : ℕ) : Type 0 where
  pub holds : P n
  pub greatest : (m : ℕ) → P m → m ≤ n

abbrev pub leased_by : ℕ → Proc → Proc
leased_by seconds c = record {
  name = c.name;
  rate_ppm = c.rate_ppm;
  offset_millis = c.offset_millis;
  up = c.up;
  watch = c.watch;
  ready = c.ready;
  lease_seconds = seconds;
  renew_millis = c.renew_millis;
  retry_millis = c.retry_millis;
  timeout_millis = c.timeout_millis;
}

-- the left side of the premise's test, with this for the beats that pauses may add
abbrev pub outlasted : Doc → ℕ → ℕ → ℕ
outlasted doc p pauses = pauses * (beat_micros doc * fastest doc) * slowest doc p + span_by (calls_late doc) doc p * fastest doc

-- the same controllers but for the lease of the one at this place
abbrev pub with_lease : ℕ → ℕ → List Proc → List Proc
with_lease p seconds [] = []
with_lease zero seconds (c ∷ cs) = leased_by seconds c ∷ cs
with_lease (suc p) seconds (c ∷ cs) = c ∷ with_lease p seconds cs

-- the same of all controllers where each goes by its own lease
abbrev pub with_leases : RespectRule → ℕ → ℕ → List Proc → List Proc
with_leases respects.Record p seconds cs = with_lease p seconds cs
with_leases respects.Own p seconds cs = map (leased_by seconds) cs

-- the document with a lease of so many seconds for a controller, or for all where each goes by its own
abbrev pub leased : Doc → ℕ → ℕ → Doc
leased doc p seconds = record {
  settings = doc.settings;
  controllers = with_leases doc.settings.rules.respect p seconds doc.controllers;
  kubelets = doc.kubelets;
  waits = doc.waits;
  objects = doc.objects;
  events = doc.events;
}

-- what the premise asks of a controller: that what others wait for its lease is long enough, and that answers come in time
abbrev pub is_enough : Doc → ℕ → Bool
is_enough doc p = answers_come doc.settings.rules.in_release doc && is_long doc (fastest doc) p

-- so it is of the document with that lease
abbrev pub is_enough_with : Doc → ℕ → ℕ → Bool
is_enough_with doc p seconds = is_enough (leased doc p seconds) p

-- the document with one more pause of a process from its start on, of so many beats; of none it is no pause
abbrev pub paused : Doc → ℕ → ℕ → Doc
paused doc p zero = doc
paused doc p (suc n) = record {
  settings = doc.settings;
  controllers = doc.controllers;
  kubelets = doc.kubelets;
  waits = doc.waits;
  objects = doc.objects;
  events = record { beat = record { 0 = 0 }; what = Pause (record { 0 = p }) (suc n) } ∷ doc.events;
}

-- the premise's test of that document's lease
abbrev pub bears : Doc → ℕ → ℕ → Bool
bears doc p beats = is_long (paused doc p beats) (fastest (paused doc p beats)) p

-- the least lease of at most a day that is enough, or none where none is
abbrev pub IsLeastLease : Doc → ℕ → Option ℕ → Type 0
IsLeastLease doc p (Some seconds) = (seconds ≤ 86400) × IsLeast (λ s. is_enough_with doc p s ≡ true) seconds
IsLeastLease doc p None = (s : ℕ) → is_enough_with doc p s ≡ true → 86400 < s

-- the milliseconds of the greatest pause for which the test still holds, or none where it doesn't hold as it is
abbrev pub IsLongestStall : Doc → ℕ → Option ℕ → Type 0
IsLongestStall doc p (Some millis) =
    (beats : ℕ) × (millis ≡ beats * doc.settings.beat_millis) × IsGreatest (λ n. bears doc p n ≡ true) beats
IsLongestStall doc p None = ¬ (is_long doc (fastest doc) p ≡ true)

-- the numbers of a controller. Its lease is what others wait; what that must exceed is rounded up: the least number of milliseconds that the test's left side
-- isn't more than
pub record IsMargin (doc : Doc) (p : ℕ) (m : Margin) : Type 0 where
  pub lease : m.lease ≡ waited_seconds doc.settings.rules.respect doc p * 1000
  pub must_exceed : IsLeast (λ n. outlasted doc p (stall_by (calls_late doc) doc p) ≤ of_millis n * slowest doc p) m.must_exceed
  pub least_seconds : IsLeastLease doc p m.least_seconds
  pub longest_stall : IsLongestStall doc p m.longest_stall

-- of every controller
abbrev pub AreMargins : Doc → Type 0
AreMargins doc = (p : ℕ) → p < length doc.controllers → IsMargin doc p (margin_of doc p)
