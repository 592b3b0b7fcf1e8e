-- A text that is written from a buffer.
use Rattle.std.proofs.Common.{◌≡◌, ℕ, List, [], ◌++◌, Result, Ok, Err, OnOk, OnErr, refl, sym, ap, ◌∙◌, subst, append_assoc}
use Rattle.std.proofs.lemmas.List.{append-nil}
use Rattle.byte_edge.specs.Bytes.{Gives, Gave, Taken}
use Rattle.byte_edge.proofs.Fronts.{gives-both, gives-nothing}
use Rattle.replay_top.specs.Spoken.{Spoken, Written}
use Rattle.trace_writer.specs.declared.writing.WriteFault.{WriteFault}

-- nothing was written yet
pub spoken-first : (before : Taken) (buffer said : List ℕ) → buffer ≡ said → Spoken before before buffer said
spoken-first before buffer said is = record { given = []; gives = gives-nothing before; is = is }

-- the buffer was given
pub spoken-given : (before now after : Taken) (buffer said : List ℕ) → Spoken before now buffer said → Gives now after buffer → Gives before after said
spoken-given before now after buffer said s given = subst (Gives before after) s.is (gives-both before now after s.given buffer s.gives given)

pub spoken-emptied : (before now after : Taken) (buffer said : List ℕ) → Spoken before now buffer said → Gives now after buffer → Spoken before after [] said
spoken-emptied before now after buffer said s given =
    record { given = said; gives = spoken-given before now after buffer said s given; is = append-nil said }

-- a prefix of the buffer was given
pub spoken-front : (before now after : Taken) (buffer said : List ℕ) → Spoken before now buffer said → Gave now after buffer → Gave before after said
spoken-front before now after buffer said s g = (
  g.0,
  record {
    front = s.given ++ g.1.front;
    is = append_assoc s.given g.1.front g.0 ∙ ap (λ l. s.given ++ l) g.1.is ∙ s.is;
    gives = gives-both before now after s.given g.1.front s.gives g.1.gives;
  },
)

-- what was taken so far is a prefix
pub spoken-so_far : (before now : Taken) (buffer said : List ℕ) → Spoken before now buffer said → Gave before now said
spoken-so_far before now buffer said s = (buffer, record { front = s.given; is = s.is; gives = s.gives })

-- more was added to the buffer
pub spoken-more : (before now : Taken) (buffer more added said whole : List ℕ) → Spoken before now buffer said → added ≡ buffer ++ more → said ++ more ≡ whole → Spoken before now added whole
spoken-more before now buffer more added said whole s is longer =
    record {
      given = s.given;
      gives = s.gives;
      is = ap (λ l. s.given ++ l) is ∙ sym (append_assoc s.given buffer more) ∙ ap (λ l. l ++ more) s.is ∙ longer;
    }

-- a prefix of a prefix
pub gave-longer : (before after : Taken) (said more whole : List ℕ) → said ++ more ≡ whole → Gave before after said → Gave before after whole
gave-longer before after said more whole longer g = (
  g.0 ++ more,
  record {
    front = g.1.front;
    is = sym (append_assoc g.1.front g.0 more) ∙ ap (λ l. l ++ more) g.1.is ∙ longer;
    gives = g.1.gives;
  },
)

-- and one of that and more
pub spoken-longer : (before now : Taken) (buffer said more : List ℕ) → Spoken before now buffer said → Gave before now (said ++ more)
spoken-longer before now buffer said more s = gave-longer before now said more (said ++ more) refl (spoken-so_far before now buffer said s)

pub written-all : {T : Type 0} (before after : Taken) (text : List ℕ) (r : Result T WriteFault) → Written before after text r → OnOk r (Gives before after text)
written-all before after text (Ok done) w = w
written-all before after text (Err fault) w = tt

pub written-front : {T : Type 0} (before after : Taken) (text : List ℕ) (r : Result T WriteFault) → Written before after text r → OnErr r (Gave before after text)
written-front before after text (Ok done) w = tt
written-front before after text (Err fault) w = w
