-- The nodes of a pass as they are seen before its marks, one after the other.
use Rattle.std.proofs.Common.{◌≡◌, ◌∙◌, ◌++◌, ◌||◌, ℕ, List, [], ◌∷◌, refl, sym, ap, subst}
use Rattle.kube_objects.specs.declared.settings.TickSettings.{TickSettings}
use Rattle.kube_objects.specs.Document.{Doc}
use Rattle.kube_objects.specs.Entry.{Entry, Identity}
use Rattle.kube_objects.specs.Judgement.{strips}
use Rattle.controller_core.specs.Looking.{AreLooks, IsLook, are_looked_ahead, is_at_passes, looks_ahead}
use Rattle.controller_core.specs.declared.pass.found.Look.{Look}
use Rattle.zone_counts.specs.Settings.{AreSettings}

-- the settings ask for looks where the document does
pub ahead_is : (doc : Doc) (settings : TickSettings) → AreSettings doc settings → looks_ahead settings ≡ are_looked_ahead doc
ahead_is doc settings s = λ i. is_at_passes (s.judge i) || strips (s.first_sight i)

-- the names before the rest were looked at
pub record LookingAhead (doc : Doc) (q : Identity) (h : List Entry) (names rest : List ℕ) (looks : List Look) : Type 0 where
  pub front : List ℕ
  pub is : names ≡ front ++ rest
  pub looked : AreLooks doc q h front looks

pub begin_ahead : (doc : Doc) (q : Identity) (h : List Entry) (names : List ℕ) → LookingAhead doc q h names names []
begin_ahead doc q h names = record { front = []; is = refl; looked = tt }

assoc : {A : Type 0} (xs ys zs : List A) → (xs ++ ys) ++ zs ≡ xs ++ (ys ++ zs)
assoc [] ys zs = refl
assoc (x ∷ xs) ys zs = ap (λ ks. x ∷ ks) (assoc xs ys zs)

looks_more : (doc : Doc) (q : Identity) (h : List Entry) (front : List ℕ) (looks : List Look) (n : ℕ) (look : Look) → AreLooks doc q h front looks → IsLook doc q h n look
    → AreLooks doc q h (front ++ n ∷ []) (looks ++ look ∷ [])
looks_more doc q h [] [] n look are is = (is, tt)
looks_more doc q h [] (x ∷ xs) n look are is = absurd are
looks_more doc q h (m ∷ ms) [] n look are is = absurd are
looks_more doc q h (m ∷ ms) (x ∷ xs) n look are is = (are.0, looks_more doc q h ms xs n look are.1 is)

pub next_ahead : (doc : Doc) (q : Identity) (h : List Entry) (names all ns : List ℕ) (n : ℕ) (old : List Look) (look : Look) → all ≡ n ∷ ns → LookingAhead doc q h names all old → IsLook doc q h n look
    → LookingAhead doc q h names ns (old ++ look ∷ [])
next_ahead doc q h names all ns n old look is s one =
    record {
      front = s.front ++ n ∷ [];
      is = s.is ∙ ap (λ xs. s.front ++ xs) is ∙ sym (assoc s.front (n ∷ []) ns);
      looked = looks_more doc q h s.front old n look s.looked one;
    }

append_nil : {A : Type 0} (xs : List A) → xs ++ [] ≡ xs
append_nil [] = refl
append_nil (x ∷ xs) = ap (λ ys. x ∷ ys) (append_nil xs)

pub end_ahead : (doc : Doc) (q : Identity) (h : List Entry) (names rest : List ℕ) (looks : List Look) → rest ≡ [] → LookingAhead doc q h names rest looks → AreLooks doc q h names looks
end_ahead doc q h names rest looks is s = subst (λ xs. AreLooks doc q h xs looks) (sym (s.is ∙ ap (λ xs. s.front ++ xs) is ∙ append_nil s.front)) s.looked
