-- What is claimed of every document that can be read, for the words of a run.
use Rattle.std.proofs.Common.{◌⊎◌, ◌≡◌, ℕ, true, List, Option, inl, inr}
use Rattle.kube_objects.specs.Document.{Doc}
use Rattle.history.specs.Premise.{answers_come, lease_part, lease_premise}
use Rattle.history_laws.proofs.Plainly.{and_right}
use Rattle.replay_top.specs.Claims.{AreSafe, Claims, IsSafe}
use Rattle.replay_top.specs.Replays.{WhereGenerated}
use Rattle.replay_top.specs.Timely.{IsTimely}

pub either : {A B C : Type 0} → (A → C) → (B → C) → A ⊎ B → C
either left right (inl a) = left a
either left right (inr b) = right b

-- where the premise holds the leases are long enough
pub leases_of : (doc : Doc) → lease_premise doc ≡ true → lease_part doc ≡ true
leases_of doc = and_right (answers_come doc.settings.rules.in_release doc) (lease_part doc)

pub claims-hold : (words : List (List ℕ)) (left : Option (List ℕ)) → AreSafe → WhereGenerated words IsSafe → WhereGenerated words IsTimely → Claims words left
claims-hold words left safe generated timely =
    record {
      holder = λ d replays premise. safe.holder replays.bytes d replays.read premise;
      exclusive = λ d replays premise. safe.exclusive replays.bytes d replays.read premise;
      until_emptied = λ d replays leases. safe.until_emptied replays.bytes d replays.read leases;
      spacing = λ d replays premise. safe.spacing replays.bytes d replays.read premise;
      spacing_in_rows = λ d replays. safe.spacing_in_rows replays.bytes d replays.read;
      not_early = λ d replays. safe.not_early d;
      prompt = λ d replays. safe.prompt replays.bytes d replays.read;
      limit = λ d replays. safe.limit d;
      timely = λ d replays. safe.timely replays.bytes d replays.read;
      safe = generated;
      timely_generated = timely;
      safe_state = λ d beat shows premise. record {
        holder = safe.holder shows.bytes d shows.read premise;
        exclusive = safe.exclusive shows.bytes d shows.read premise;
        spacing = safe.spacing shows.bytes d shows.read premise;
        not_early = safe.not_early d;
        prompt = safe.prompt shows.bytes d shows.read;
        limit = safe.limit d;
      };
      until_emptied_state = λ d beat shows leases. safe.until_emptied shows.bytes d shows.read leases;
      timely_state = λ d beat shows. safe.timely shows.bytes d shows.read;
    }
