-- What names are hashed by.
use Rattle.std.specs.Prelude.{ℕ, List}
use Rattle.std.specs.Hash.{le_bytes}
use Rattle.std.specs.Hash.DefaultHasher as sip
use Rattle.kube_base.specs.declared.name_hash.NameHash.{NameHash}

-- no key: each hash begins at the initial state
abbrev pub without_key : NameHash
without_key = record { begun = sip.initial }

-- the key of an input is the hash of all its bytes: each hash begins behind it
abbrev pub with_key_of : List ℕ → NameHash
with_key_of input = record { begun = sip.write sip.initial (le_bytes 8 (sip.finish (sip.write sip.initial input))) }
