-- Whose an entry is, and whose a Lease is.
use Rattle.std.specs.Prelude.{ℕ, ◌==◌, ◌&&◌, not, Bool, true, false, Option, Some, None}
use Rattle.kube_objects.specs.declared.deed.Actor.{Actor}
use Rattle.kube_objects.specs.declared.deed.Actor.TheVariants as actor
use Rattle.kube_objects.specs.declared.lease.Holder.{Holder}
use Rattle.kube_objects.specs.declared.lease.Holder.TheVariants as holder
use Rattle.kube_objects.specs.Entry.{Identity}
use Rattle.kube_objects.specs.Newest.{when}

abbrev pub identity : ℕ → ℕ → Identity
identity p i = record { process = p; incarnation = i }

abbrev pub is_same : Identity → Identity → Bool
is_same a b = (a.process == b.process) && (a.incarnation == b.incarnation)

-- whether the identity is the actor
abbrev pub is_by : Identity → Actor → Bool
is_by q actor.Script = false
is_by q (actor.Proc id incarnation) = is_same (identity id.0 incarnation) q

-- the incarnation of the process, where it is the actor
abbrev pub of_process : ℕ → Actor → Option ℕ
of_process p actor.Script = None
of_process p (actor.Proc id incarnation) = when (id.0 == p) incarnation

abbrev pub identity_of : Actor → Option Identity
identity_of actor.Script = None
identity_of (actor.Proc id incarnation) = Some (identity id.0 incarnation)

abbrev pub holder_of : Identity → Holder
holder_of q = holder.Proc (record { 0 = q.process }) q.incarnation

-- whether the identity is the holder
abbrev pub is_own : Identity → Holder → Bool
is_own q holder.Nobody = false
is_own q (holder.Proc id incarnation) = is_same (identity id.0 incarnation) q
is_own q (holder.Foreign name) = false

-- whether somebody else is the holder
abbrev pub is_other : Identity → Holder → Bool
is_other q holder.Nobody = false
is_other q (holder.Proc id incarnation) = not (is_same (identity id.0 incarnation) q)
is_other q (holder.Foreign name) = true
