use Rattle.std.proofs.Common.{◌≡◌, ◌∙◌, true, false, cond, refl, sym, ap}
use Rattle.kube_objects.specs.declared.call.Request.TheVariants.{Create, Update}
use Rattle.kube_objects.specs.Elector.{Fails, Asks, follow_get, is_blocked, moment, respected, updated}
use Rattle.kube_objects.specs.Stored.{election}
use Rattle.leader_elector.specs.Plain.{identity_of, moment_of}
use Rattle.leader_elector.specs.Stands.{observed_of}
use Rattle.leader_elector.proofs.elector.Elector.follow_get.Goals as goal

pub returns-in-Absent-clause-moment : goal.returns-in-Absent-clause-moment
returns-in-Absent-clause-moment c =
    let self = c.args.self.now in
    ap (λ l. Asks (Create election l)) (c.new_lease.ensures.moment c.args.now.0)
    ∙ ap (follow_get (identity_of self) (moment_of self c.args.now.0 c.args.wall.0) (observed_of self.seen)) (sym c.in-Absent.is)

pub returns-else-is_blocked-clause-moment : goal.returns-else-is_blocked-clause-moment
returns-else-is_blocked-clause-moment c =
    let self = c.args.self.now in
    let q = identity_of self in
    let m = moment_of self c.args.now.0 c.args.wall.0 in
    let version = c.in-Found.version in
    let lease = c.in-Found.lease in
    let free : is_blocked q m.now (observed_of self.seen) (respected m.respect m.seconds lease) ≡ false = sym (c.is_blocked.ensures q refl refl) ∙ c.if-is_blocked.false in
    ap (λ l. Asks (Update election version l)) (c.update_of.ensures.moment c.args.now.0)
    ∙ sym (ap (λ b. cond b Fails (Asks (Update election version (updated q m lease)))) free)
    ∙ ap (follow_get q m (observed_of self.seen)) (sym c.in-Found.is)

pub returns-then-is_blocked-clause-history : goal.returns-then-is_blocked-clause-history
returns-then-is_blocked-clause-history c doc q k me incarnation timing now wall =
    let m = moment doc q k in
    let seen = observed_of c.args.self.now.seen in
    let version = c.in-Found.version in
    let lease = c.in-Found.lease in
    let blocked : is_blocked q m.now seen (respected m.respect m.seconds lease) ≡ true =
    (λ i. is_blocked q (sym now i) seen (respected (sym timing.respect i) (sym timing.lease i) lease))
    ∙ sym (c.is_blocked.ensures q me incarnation)
    ∙ c.if-is_blocked.true in
    sym (ap (λ b. cond b Fails (Asks (Update election version (updated q m lease)))) blocked) ∙ ap (follow_get q m seen) (sym c.in-Found.is)

pub returns-else-is_blocked-clause-history : goal.returns-else-is_blocked-clause-history
returns-else-is_blocked-clause-history c doc q k me incarnation timing now wall =
    let m = moment doc q k in
    let seen = observed_of c.args.self.now.seen in
    let version = c.in-Found.version in
    let lease = c.in-Found.lease in
    let free : is_blocked q m.now seen (respected m.respect m.seconds lease) ≡ false =
    (λ i. is_blocked q (sym now i) seen (respected (sym timing.respect i) (sym timing.lease i) lease))
    ∙ sym (c.is_blocked.ensures q me incarnation)
    ∙ c.if-is_blocked.false in
    ap (λ l. Asks (Update election version l)) (c.update_of.ensures.history doc q k me incarnation timing wall)
    ∙ sym (ap (λ b. cond b Fails (Asks (Update election version (updated q m lease)))) free)
    ∙ ap (follow_get q m seen) (sym c.in-Found.is)
