-- What is drawn for a generated document, in this order: for each node whether its kubelet crashes, and if so at which beat; then for each
-- Pod its node, and for how many seconds it tolerates. Source: profile; the words are those of PCG's generator.
use Rattle.std.specs.Prelude.{ℕ, zero, suc, ◌+◌, ◌%◌, ◌==◌, List, [], ◌∷◌, ◌++◌, if◌then◌else◌}
use Rattle.rand_pcg.specs.Lcg.{Lcg, started, increment_of}
use Rattle.rand_pcg.specs.Pcg.{multiplier_64, pcg32}
use Rattle.world_gen.specs.declared.crash.Crash.{Crash}
use Rattle.world_gen.specs.declared.pod.Placing.{Placing}

-- what was drawn, and the generator behind it
pub record Drawn (A : Type 0) : Type 0 where
  pub value : A
  pub rest : Lcg

-- the generator of a seed, on stream 54
unfoldable pub start : ℕ → Lcg
start seed = started 64 multiplier_64 seed (increment_of 64 54)

-- a number below n: the next word modulo n
unfoldable pub draw : ℕ → Lcg → Drawn ℕ
draw n g = record { value = (pcg32 g).0 % n; rest = (pcg32 g).1 }

-- a crash of this process at a beat that is drawn
abbrev pub crash_at : ℕ → ℕ → Lcg → Drawn (List Crash)
crash_at beats process g =
    let beat = draw (beats + 1) g in
    record { value = record { beat = beat.value; process = process } ∷ []; rest = beat.rest }

-- one kubelet of four crashes; the kubelet of node i stands behind three controllers
unfoldable pub crash_of : ℕ → ℕ → Lcg → Drawn (List Crash)
crash_of beats i g =
    let chance = draw 4 g in
    if chance.value == 0 then crash_at beats (3 + i) chance.rest else record { value = []; rest = chance.rest }

-- those of the first nodes
unfoldable pub crashes : ℕ → ℕ → Lcg → Drawn (List Crash)
crashes beats zero g = record { value = []; rest = g }
crashes beats (suc i) g =
    let before = crashes beats i g in
    let next = crash_of beats i before.rest in
    record { value = before.value ++ next.value; rest = next.rest }

-- the node of a Pod, and then its seconds
unfoldable pub placing : ℕ → Lcg → Drawn Placing
placing nodes g =
    let node = draw nodes g in
    let seconds = draw 600 node.rest in
    record { value = record { node = node.value; seconds = seconds.value }; rest = seconds.rest }
