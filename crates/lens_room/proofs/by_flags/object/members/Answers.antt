use Rattle.std.proofs.Common.{[], ◌∷◌, codes, map, ap, ◌∙◌}
use Rattle.serde_json.specs.Data.{boolean}
use Rattle.lens_json.specs.Members.{named, nat}
use Rattle.lens_room.proofs.by_flags.object.members.Goals as goal

pub returns : goal.returns
returns c =
    ap (map named) c.in_ok-members.ensures.items
    ∙ λ i.
    (c.number.ensures ∙ ap (nat (codes "timeoutMillis")) (c.from.ensures ∙ c.timeout.ensures)) i
    ∷ (c.member.ensures ∙ ap (λ b. (codes "timeoutIsRenewDeadline", boolean b)) c.is_renew_deadline-is_renew_deadline.ensures) i
    ∷ (c.number-2.ensures ∙ ap (nat (codes "skewPpm")) c.from-2.ensures) i
    ∷ c.release_member.ensures i ∷ c.acting_member.ensures i ∷ c.member-2.ensures i ∷ c.member-3.ensures i
    ∷ (c.member-4.ensures ∙ ap (λ d. (codes "slackMillis", d)) c.slack.ensures) i
    ∷ (c.member-5.ensures ∙ ap (λ d. (codes "leastLeaseSeconds", d)) c.seconds.ensures) i
    ∷ (c.member-6.ensures ∙ ap (λ d. (codes "longestStallMillis", d)) c.stall.ensures) i
    ∷ (c.member-7.ensures ∙ ap (λ d. (codes "greatestSkewPpm", d)) c.ppm.ensures) i
    ∷ c.member-8.ensures i ∷ []
