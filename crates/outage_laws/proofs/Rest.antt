-- What each entry of a tick but its pass keeps.
use Rattle.std.proofs.Common.{◌≡◌, ◌∙◌, ℕ, Bool, true, false, List, refl, sym}
use Rattle.kube_objects.specs.Document.{Doc}
use Rattle.kube_objects.specs.Entry.{Entry, Identity, Tick, Sync, Pass, Delete}
use Rattle.kube_objects.specs.Tick.{add, sync, set_mode, set_zones, marks, cleaned, tainted, evicted}
use Rattle.history_laws.proofs.Plainly.{true_is}
use Rattle.history_laws.proofs.Ticks.{MadeTick, WritesOver, is_looking, is_cleaning, is_heading, evict_step, evicted_each, kept_sync, kept_mode, kept_zones, kept_rest, kept_cleaned, kept_tainted}

abbrev pub is_pass : Tick → Bool
is_pass Pass = true
is_pass _ = false

-- what is of a kind that a pass isn't of is none
no_pass : (kind : Tick → Bool) → kind Pass ≡ false → (t : Tick) → kind t ≡ true → is_pass t ≡ false
no_pass kind other Pass is = absurd (true_is (sym is ∙ other))
no_pass kind other t is = refl

module _ (doc : Doc) (k : ℕ) (q : Identity) (P : List Entry → Type 0) (more : (t : Tick) → is_pass t ≡ false → (h : List Entry) → P h → P (add k q t h)) where
  of_kind : (kind : Tick → Bool) → kind Pass ≡ false → (t : Tick) (h : List Entry) → kind t ≡ true → MadeTick doc k q t h → WritesOver q t h → P h → P (add k q t h)
  of_kind kind other t h is made over p = more t (no_pass kind other t is) h p

  pub keep_sync : (h : List Entry) → P h → P (sync doc k q h)
  keep_sync = kept_sync doc k q P (λ h p. more Sync refl h p)

  pub keep_mode : (h : List Entry) → P h → P (set_mode doc k q h)
  keep_mode = kept_mode doc k q P (of_kind is_looking refl)

  pub keep_zones : (h : List Entry) → P h → P (set_zones doc k q h)
  keep_zones = kept_zones doc k q P (of_kind is_looking refl)

  -- what follows the pass
  pub keep_later : (h : List Entry) → P h → P (evicted doc k q (tainted doc k q (cleaned doc k q h)))
  keep_later h p =
      let cleans : P (cleaned doc k q h) = kept_cleaned doc k q P (of_kind is_cleaning refl) h p in
      let taints : P (tainted doc k q (cleaned doc k q h)) = kept_tainted doc k q P (of_kind is_heading refl) (cleaned doc k q h) cleans in
      evicted_each doc k q P (λ pod h kind p. evict_step doc k q P pod h kind p (λ given node_given at a made. more (Delete pod given node_given at a) refl h p)) (tainted doc k q (cleaned doc k q h)) taints

  -- what follows the entry of a pass
  pub keep_passed : (h : List Entry) → P h → P (evicted doc k q (tainted doc k q (cleaned doc k q (set_zones doc k q (set_mode doc k q (marks doc k q h))))))
  keep_passed h p = keep_later (set_zones doc k q (set_mode doc k q (marks doc k q h))) (kept_rest doc k q P (of_kind is_looking refl) h p)
