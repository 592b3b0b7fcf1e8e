use Rattle.std.proofs.Common.{◌≡◌, ◌&&◌, true, refl, subst}
use Rattle.kube_objects.specs.Elector.{moment, attempt_from, is_valid, renewed}
use Rattle.kube_objects.specs.Identities.{is_own}
use Rattle.leader_elector.specs.Plain.{BeginsCall, identity_of, moment_of}
use Rattle.std.proofs.Common.{◌∙◌, sym, ap, cond}
use Rattle.kube_objects.specs.declared.call.Request.TheVariants.{Get, Update}
use Rattle.kube_objects.specs.Elector.{attempt_from, observed_at, renewed, shown}
use Rattle.kube_objects.specs.Entry.{Fast, Plain}
use Rattle.kube_objects.specs.Stored.{election}
use Rattle.kube_objects.specs.Wire.{send}
use Rattle.leader_elector.specs.Stands.{observed_of, shown_of}
use Rattle.leader_elector.proofs.Beginning.{attempt_from-seen}
use Rattle.leader_elector.proofs.elector.Elector.renew.Goals as goal

pub returns-in_default-clause-history : goal.returns-in_default-clause-history
returns-in_default-clause-history c doc q h k s now wall room =
    c.ask.ensures.history doc q h _ k 4 s now room (ap (λ x. send doc k 4 q (attempt_from q (moment doc q k) (observed_at doc q h) x).0 (attempt_from q (moment doc q k) (observed_at doc q h) x).1 h) (sym s.shown ∙ ap shown_of c.in_default.is))

pub returns-then-not-is_renewable-clause-history : goal.returns-then-not-is_renewable-clause-history
returns-then-not-is_renewable-clause-history c doc q h k s now wall room =
    let seen = c.in-Some.seen in
    let is = attempt_from-seen doc q k c.args.now.0 (observed_at doc q h) seen (shown q h) c.is_renewable.result (sym s.shown ∙ ap shown_of c.in-Some.is) (sym s.observed ∙ ap observed_of c.in-Some.is) now (c.is_renewable.ensures q s.process s.incarnation) in
    c.ask-then-not-is_renewable.ensures.history doc q h _ k 4 s now room
    (ap (λ x. send doc k 4 q x.0 x.1 h) (is ∙ ap (λ b. cond b (Fast, Update election seen.version (renewed q (moment doc q k) seen.lease)) (Plain, Get election)) c.if-not-is_renewable.true))

pub returns-clause-history : goal.returns-clause-history
returns-clause-history c doc q h k s now wall room =
    let seen = c.in-Some.seen in
    let is = attempt_from-seen doc q k c.args.now.0 (observed_at doc q h) seen (shown q h) c.is_renewable.result (sym s.shown ∙ ap shown_of c.in-Some.is) (sym s.observed ∙ ap observed_of c.in-Some.is) now (c.is_renewable.ensures q s.process s.incarnation) in
    c.ask-2.ensures.history doc q h _ k 4 s now room
    (ap (λ x. send doc k 4 q x.0 x.1 h) (is ∙ ap (λ b. cond b (Fast, Update election seen.version (renewed q (moment doc q k) seen.lease)) (Plain, Get election)) c.if-not-is_renewable.false)
    ∙ ap (λ l. send doc k 4 q Fast (Update election seen.version l) h) (sym (c.renewal-lease.ensures.history doc q k s.process s.incarnation s.timing wall)))

pub returns-clause-asks : goal.returns-clause-asks
returns-clause-asks c =
    let self = c.args.self.now in
    let q = identity_of self in
    let m = moment_of self c.args.now.0 c.args.wall.0 in
    let seen = c.in-Some.seen in
    let own : (is_own q seen.lease.holder && is_valid m.now seen.at.0 seen.lease) ≡ true = sym (c.is_renewable.ensures q refl refl) ∙ c.if-not-is_renewable.false in
    let is : attempt_from q m (observed_of self.seen) (shown_of self.seen) ≡ (Fast, Update election seen.version c.renewal-lease.result) =
    ap (λ s. attempt_from q m (observed_of s) (shown_of s)) c.in-Some.is
    ∙ ap (λ b. cond b (Fast, Update election seen.version (renewed q m seen.lease)) (Plain, Get election)) own
    ∙ ap (λ l. (Fast, Update election seen.version l)) (sym (c.renewal-lease.ensures.moment c.args.now.0)) in
    subst (λ x. BeginsCall self c.args.now.0 x c.ask-2.new.self c.ask-2.result) (sym is) c.ask-2.ensures.asks
