-- The derived `cmp` of keys is the order that the definitions name, and keys that it doesn't tell apart are one.
use Rattle.std.proofs.Common.{◌≡◌, ℕ, Bool, true, false, ◌&&◌, refl, ap, sym, ◌∙◌, arith, Less, Equal, Greater}
use Rattle.std.proofs.lemmas.Bool.Decides.{nat_tests}
use Rattle.std.specs.Ordering.{nat_cmp, ordering_then, is_eq}
use Rattle.std.specs.declared.cmp.Ordering.{Ordering}
use Rattle.kube_objects.specs.declared.key.Key.{Key}
use Rattle.kube_objects.specs.declared.key.Kind.{Kind}
use Rattle.kube_objects.specs.declared.key.Kind.TheVariants.{Node, Lease, Pod}
use Rattle.kube_objects.specs.contracts.key.KeyOrd.TheImpl as key_ord
use Rattle.kube_objects.specs.contracts.key.KindOrd.TheImpl as kind_ord
use Rattle.kube_objects.specs.Keys.{key_cmp, key_eq, kind_rank}

kind_order : (a b : Kind) → (kind_ord.cmp-value).it a b ≡ nat_cmp (kind_rank a) (kind_rank b)
kind_order Node Node = refl
kind_order Node Lease = refl
kind_order Node Pod = refl
kind_order Lease Node = refl
kind_order Lease Lease = refl
kind_order Lease Pod = refl
kind_order Pod Node = refl
kind_order Pod Lease = refl
kind_order Pod Pod = refl

key_order_at : (a b : Key) → (key_ord.cmp-value).it a b ≡ key_cmp a b
key_order_at a b = ap (λ o. ordering_then o (ordering_then (nat_cmp a.space b.space) (nat_cmp a.name b.name))) (kind_order a.kind b.kind)

-- one function, so a map's clause by the derived order is rewritten whole, by `subst`
pub key_order : (key_ord.cmp-value).it ≡ key_cmp
key_order = λ i a b. key_order_at a b i

-- ---- keys that the order doesn't tell apart are one

then_eq : (o p : Ordering) → is_eq (ordering_then o p) ≡ (is_eq o && is_eq p)
then_eq Less p = refl
then_eq Equal p = refl
then_eq Greater p = refl

number_same : (a b : ℕ) → is_eq (nat_cmp a b) ≡ true → a ≡ b
number_same a b h = grind (arith, nat_tests)

kind_same : (a b : Kind) → kind_rank a ≡ kind_rank b → a ≡ b
kind_same Node Node e = refl
kind_same Node Lease e = cc
kind_same Node Pod e = cc
kind_same Lease Node e = cc
kind_same Lease Lease e = refl
kind_same Lease Pod e = cc
kind_same Pod Node e = cc
kind_same Pod Lease e = cc
kind_same Pod Pod e = refl

first_of_and : (b c : Bool) → (b && c) ≡ true → b ≡ true
first_of_and true c h = refl
first_of_and false c h = h

second_of_and : (b c : Bool) → (b && c) ≡ true → c ≡ true
second_of_and true c h = h
second_of_and false c h = cc

pub same_key : (a b : Key) → key_eq a b ≡ true → a ≡ b
same_key a b h =
    let kinds = nat_cmp (kind_rank a.kind) (kind_rank b.kind) in
    let spaces = nat_cmp a.space b.space in
    let names = nat_cmp a.name b.name in
    let whole : (is_eq kinds && is_eq (ordering_then spaces names)) ≡ true = sym (then_eq kinds (ordering_then spaces names)) ∙ h in
    let rest : (is_eq spaces && is_eq names) ≡ true = sym (then_eq spaces names) ∙ second_of_and (is_eq kinds) (is_eq (ordering_then spaces names)) whole in
    let kind : a.kind ≡ b.kind = kind_same a.kind b.kind (number_same (kind_rank a.kind) (kind_rank b.kind) (first_of_and (is_eq kinds) (is_eq (ordering_then spaces names)) whole)) in
    let space : a.space ≡ b.space = number_same a.space b.space (first_of_and (is_eq spaces) (is_eq names) rest) in
    let name : a.name ≡ b.name = number_same a.name b.name (second_of_and (is_eq spaces) (is_eq names) rest) in
    joined a b kind space name
  where
    joined : (a b : Key) → a.kind ≡ b.kind → a.space ≡ b.space → a.name ≡ b.name → a ≡ b
    joined a b kind space name = λ i. record { kind = kind i; space = space i; name = name i }

number_eq_itself : (a : ℕ) → is_eq (nat_cmp a a) ≡ true
number_eq_itself a = grind (arith, nat_tests)

pub key_itself : (a : Key) → key_eq a a ≡ true
key_itself a =
    then_eq (nat_cmp (kind_rank a.kind) (kind_rank a.kind)) (ordering_then (nat_cmp a.space a.space) (nat_cmp a.name a.name))
    ∙ ap (λ b. b && is_eq (ordering_then (nat_cmp a.space a.space) (nat_cmp a.name a.name))) (number_eq_itself (kind_rank a.kind))
    ∙ then_eq (nat_cmp a.space a.space) (nat_cmp a.name a.name)
    ∙ ap (λ b. b && is_eq (nat_cmp a.name a.name)) (number_eq_itself a.space)
    ∙ number_eq_itself a.name
