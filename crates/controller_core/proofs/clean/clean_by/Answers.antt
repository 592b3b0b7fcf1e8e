use Rattle.std.proofs.Common.{◌≡◌, ◌∙◌, false, sym}
use Rattle.kube_objects.specs.Tick.{is_stripped}
use Rattle.tick_laws.proofs.Cleaning.{clean_idle, to_clean_kept}
use Rattle.controller_core.proofs.clean.clean_by.Goals as goal

pub returns-then-fresh : goal.returns-then-fresh
returns-then-fresh c doc k q h stands synced time is = c.strip_of.ensures doc k q h stands synced (sym is ∙ c.if-fresh.true)

pub returns-then-is_unclean_at : goal.returns-then-is_unclean_at
returns-then-is_unclean_at c doc k q h stands synced time is =
    c.clean_of.ensures doc k q h stands synced time (sym (c.is_unclean_at.ensures q h stands) ∙ c.if-is_unclean_at.true) (sym is ∙ c.if-fresh.false)

pub returns : goal.returns
returns c doc k q h stands synced time is =
    let kept : is_stripped doc.settings.rules.first_sight k q c.args.name h ≡ false = sym is ∙ c.if-fresh.false in
    clean_idle doc k q c.args.name h (to_clean_kept doc k q c.args.name h kept ∙ sym (c.is_unclean_at.ensures q h stands) ∙ c.if-is_unclean_at.false)
