-- The keys and the counts beside the objects of a list.
use Rattle.std.proofs.Common.{◌≡◌, ℕ, ◌+◌, nat_lt, Bool, true, false, cond, ◌||◌, List, [], ◌∷◌, ◌++◌, Option, Some, None, is_some, Result, Ok, Err, refl, sym, ap, ◌∙◌, arith, count_by, ◌==◌}
use Rattle.std.proofs.lemmas.List.Sums.{sum_by-append}
use Rattle.std.proofs.lemmas.List.Folds.{list_any-append}
use Rattle.kube_objects.specs.Keys.{key_eq, kind_rank}
use Rattle.kube_objects.specs.declared.key.Key.{Key}
use Rattle.kube_objects.specs.declared.key.Kind.{Kind}
use Rattle.kube_objects.specs.declared.key.Kind.TheVariants as kinds
use Rattle.kube_objects.specs.declared.object.Object.{Object}
use Rattle.manifest_json.specs.declared.codes.TheConstants.{DUPLICATE, TOO_MANY}
use Rattle.manifest_json.specs.declared.fault.Refusal.{Refusal}
use Rattle.manifest_json.specs.declared.fault.ReadFault.{ReadFault}
use Rattle.manifest_json.specs.declared.fault.ReadFault.TheVariants.{Refused, NoMemory}
use Rattle.manifest_json.specs.declared.kept.Counts.{Counts}
use Rattle.manifest_json.specs.declared.scale.Scale.{Scale}
use Rattle.manifest_json.specs.Faults.{refuse, Fails, IsFault}
use Rattle.manifest_json.specs.Kept.{counts_of, with_one}
use Rattle.manifest_json.specs.Walk.{has_key, kind_count, kind_limit, with_found}

-- a fault with the code and path of the walk's refusal
pub fails-by : {Y : Type 0} (code : ℕ) (path : List ℕ) (e : ReadFault) (answer : Result Y Refusal) → IsFault code path e → answer ≡ refuse code path → Fails e answer
fails-by code path (Refused r) answer fault is = is ∙ ap (λ (x : Refusal). Err x) (sym fault)
fails-by code path NoMemory answer fault is = tt

none_false : {A : Type 0} (b : Bool) (x : A) → cond b (Some x) None ≡ None → b ≡ false
none_false true x h = absurd cc
none_false false x h = refl

some_true : {A : Type 0} (b : Bool) (x y : A) → cond b (Some x) None ≡ Some y → (b ≡ true) × (x ≡ y)
some_true true x y h = (refl, cc)
some_true false x y h = absurd cc

pub with_found-there : (scale : Scale) (path : List ℕ) (items : List (Key × Object)) (found : Key × Object) → has_key found.0 items ≡ true → with_found scale path items found ≡ refuse DUPLICATE path
with_found-there scale path items found h =
    ap (λ b. cond b (refuse DUPLICATE path) (cond (nat_lt (kind_count found.0.kind items) (kind_limit scale found.0.kind)) (Ok (items ++ found ∷ [])) (refuse TOO_MANY path))) h

is_full : (scale : Scale) (items : List (Key × Object)) (kind : Kind) → with_one scale (counts_of items) kind ≡ None → nat_lt (kind_count kind items) (kind_limit scale kind) ≡ false
is_full scale items kinds.Node h = none_false _ _ h
is_full scale items kinds.Lease h = none_false _ _ h
is_full scale items kinds.Pod h = none_false _ _ h

has_room : (scale : Scale) (items : List (Key × Object)) (kind : Kind) (c : Counts) → with_one scale (counts_of items) kind ≡ Some c → nat_lt (kind_count kind items) (kind_limit scale kind) ≡ true
has_room scale items kinds.Node c h = (some_true _ _ _ h).0
has_room scale items kinds.Lease c h = (some_true _ _ _ h).0
has_room scale items kinds.Pod c h = (some_true _ _ _ h).0

pub with_found-full : (scale : Scale) (path : List ℕ) (items : List (Key × Object)) (found : Key × Object) → has_key found.0 items ≡ false → with_one scale (counts_of items) found.0.kind ≡ None → with_found scale path items found ≡ refuse TOO_MANY path
with_found-full scale path items found new full =
    ap (λ b. cond b (refuse DUPLICATE path) (cond (nat_lt (kind_count found.0.kind items) (kind_limit scale found.0.kind)) (Ok (items ++ found ∷ [])) (refuse TOO_MANY path))) new
    ∙ ap (λ b. cond b (Ok (items ++ found ∷ [])) (refuse TOO_MANY path)) (is_full scale items found.0.kind full)

pub with_found-new : (scale : Scale) (path : List ℕ) (items : List (Key × Object)) (found : Key × Object) (c : Counts) → has_key found.0 items ≡ false → with_one scale (counts_of items) found.0.kind ≡ Some c → with_found scale path items found ≡ Ok (items ++ found ∷ [])
with_found-new scale path items found c new room =
    ap (λ b. cond b (refuse DUPLICATE path) (cond (nat_lt (kind_count found.0.kind items) (kind_limit scale found.0.kind)) (Ok (items ++ found ∷ [])) (refuse TOO_MANY path))) new
    ∙ ap (λ b. cond b (Ok (items ++ found ∷ [])) (refuse TOO_MANY path)) (has_room scale items found.0.kind c room)

count_yes : (p : (Key × Object) → Bool) (xs : List (Key × Object)) (x : Key × Object) → p x ≡ true → count_by p (xs ++ x ∷ []) ≡ count_by p xs + 1
count_yes p xs x h = sum_by-append (λ y. cond (p y) 1 0) xs (x ∷ []) ∙ ap (λ b. count_by p xs + (0 + cond b 1 0)) h

count_no : (p : (Key × Object) → Bool) (xs : List (Key × Object)) (x : Key × Object) → p x ≡ false → count_by p (xs ++ x ∷ []) ≡ count_by p xs
count_no p xs x h = sum_by-append (λ y. cond (p y) 1 0) xs (x ∷ []) ∙ ap (λ b. count_by p xs + (0 + cond b 1 0)) h ∙ omega arith

-- the counts after one more
pub counts_of-push : (scale : Scale) (items : List (Key × Object)) (kind : Kind) (space name : ℕ) (o : Object) (c : Counts)
    → with_one scale (counts_of items) kind ≡ Some c → c ≡ counts_of (items ++ (record { kind = kind; space = space; name = name }, o) ∷ [])
counts_of-push scale items kinds.Node space name o c h =
    let x : Key × Object = (record { kind = kinds.Node; space = space; name = name }, o) in
    let nodes' = count_yes (λ i. 0 == kind_rank i.0.kind) items x refl in
    let leases' = count_no (λ i. 1 == kind_rank i.0.kind) items x refl in
    let pods' = count_no (λ i. 2 == kind_rank i.0.kind) items x refl in
    sym (some_true _ _ c h).1 ∙ (λ i. record { nodes = sym nodes' i; leases = sym leases' i; pods = sym pods' i })
counts_of-push scale items kinds.Lease space name o c h =
    let x : Key × Object = (record { kind = kinds.Lease; space = space; name = name }, o) in
    let nodes' = count_no (λ i. 0 == kind_rank i.0.kind) items x refl in
    let leases' = count_yes (λ i. 1 == kind_rank i.0.kind) items x refl in
    let pods' = count_no (λ i. 2 == kind_rank i.0.kind) items x refl in
    sym (some_true _ _ c h).1 ∙ (λ i. record { nodes = sym nodes' i; leases = sym leases' i; pods = sym pods' i })
counts_of-push scale items kinds.Pod space name o c h =
    let x : Key × Object = (record { kind = kinds.Pod; space = space; name = name }, o) in
    let nodes' = count_no (λ i. 0 == kind_rank i.0.kind) items x refl in
    let leases' = count_no (λ i. 1 == kind_rank i.0.kind) items x refl in
    let pods' = count_yes (λ i. 2 == kind_rank i.0.kind) items x refl in
    sym (some_true _ _ c h).1 ∙ (λ i. record { nodes = sym nodes' i; leases = sym leases' i; pods = sym pods' i })

or_cond : (a b : Bool) → cond a true b ≡ (b || (a || false))
or_cond true true = refl
or_cond true false = refl
or_cond false true = refl
or_cond false false = refl

pub has_key-push : (q : Key) (items : List (Key × Object)) (found : Key × Object) → cond (key_eq found.0 q) true (has_key q items) ≡ has_key q (items ++ found ∷ [])
has_key-push q items found = or_cond (key_eq found.0 q) (has_key q items) ∙ sym (list_any-append (λ i. key_eq i.0 q) items (found ∷ []))

some_put : {A : Type 0} (b : Bool) (x : A) (o : Option A) → is_some (cond b (Some x) o) ≡ cond b true (is_some o)
some_put true x o = refl
some_put false x o = refl

-- an inserted key is one of the keys
pub key-push : {A : Type 0} (old new : Option A) (x : A) (q : Key) (items : List (Key × Object)) (found : Key × Object) (more : List (Key × Object))
    → new ≡ cond (key_eq found.0 q) (Some x) old → is_some old ≡ has_key q items → more ≡ items ++ found ∷ [] → is_some new ≡ has_key q more
key-push old new x q items found more put had is =
    ap is_some put ∙ some_put (key_eq found.0 q) x old ∙ ap (λ b. cond (key_eq found.0 q) true b) had
    ∙ has_key-push q items found ∙ ap (has_key q) (sym is)
