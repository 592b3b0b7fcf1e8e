use Rattle.replay_top.proofs.Claimed.{leases_of}
use Rattle.replay_top.proofs.safe.lawful_documents_are_safe.Goals as goal

pub returns : goal.returns
returns c =
    let sound = c.lawful_documents_are_sound.ensures in
    let lease = c.lease_is_safe.ensures in
    let evicts = c.evictions_are_timely.ensures in
    record {
      safe = λ doc lawful premise. record {
        holder = lease.holder doc (leases_of doc premise) (sound doc lawful);
        exclusive = lease.exclusive doc premise (sound doc lawful);
        spacing = c.taints_are_spaced.ensures doc premise (sound doc lawful) lawful.settings.secondary;
        not_early = evicts.not_early doc;
        prompt = evicts.prompt doc;
        limit = evicts.limited doc;
      };
      until_emptied = λ doc lawful leases. record {
        holder = lease.holder doc leases (sound doc lawful);
        exclusive = lease.until_emptied doc leases (sound doc lawful);
      };
      spacing_in_rows = λ doc lawful. c.turns_are_spaced_in_rows.ensures doc (sound doc lawful) lawful.settings.secondary;
      not_early = evicts.not_early;
      prompt = evicts.prompt;
      limit = evicts.limited;
      timely = λ doc lawful. record {
        sound = sound doc lawful;
        acting = c.acting_is_alike.ensures doc;
        takes_over = c.takeovers_are_bounded.ensures.told doc;
        stays = c.leaders_stay.ensures doc;
        gap = c.gaps_last.ensures doc;
        waits = c.others_wait.ensures doc;
        settles = c.calm_spans_settle.ensures.told doc;
        silence = c.silences_last.ensures.told doc;
        release = c.releases_last.ensures doc;
        release_followed = c.releases_are_followed.ensures.told doc;
        succeeds = c.successors_lead.ensures.told doc;
        acts_on = c.leaders_act_on.ensures doc;
      };
    }
