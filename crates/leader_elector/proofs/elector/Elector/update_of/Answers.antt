use Rattle.std.proofs.Common.{◌≡◌, ◌∙◌, true, false, cond, refl, sym, ap}
use Rattle.kube_objects.specs.Elector.{renewed, taken}
use Rattle.kube_objects.specs.Identities.{is_own}
use Rattle.leader_elector.specs.Plain.{identity_of, moment_of}
use Rattle.leader_elector.proofs.elector.Elector.update_of.Goals as goal

pub returns-then-holds-clause-moment : goal.returns-then-holds-clause-moment
returns-then-holds-clause-moment c now =
    let self = c.args.self.now in
    let m = moment_of self now c.args.wall.0 in
    let own : is_own (identity_of self) c.args.lease.now.holder ≡ true = sym (c.holds.ensures (identity_of self) refl refl) ∙ c.if-holds.true in
    c.renewal.ensures.moment now ∙ sym (ap (λ b. cond b (renewed (identity_of self) m c.args.lease.now) (taken (identity_of self) m c.args.lease.now)) own)

pub returns-clause-moment : goal.returns-clause-moment
returns-clause-moment c now =
    let self = c.args.self.now in
    let m = moment_of self now c.args.wall.0 in
    let own : is_own (identity_of self) c.args.lease.now.holder ≡ false = sym (c.holds.ensures (identity_of self) refl refl) ∙ c.if-holds.false in
    c.takeover.ensures.moment now ∙ sym (ap (λ b. cond b (renewed (identity_of self) m c.args.lease.now) (taken (identity_of self) m c.args.lease.now)) own)
