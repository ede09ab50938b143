-- A question by the words that are cut off one after the other.
use Rattle.std.proofs.Common.{◌≡◌, ℕ, List, ◌∙◌, ap, ap₂, Option, Some}
use Rattle.std.specs.Prelude.{codes}
use Rattle.gm_types.specs.Specification.{Specification}
use Rattle.gm_script.specs.Ask.{option_in, past_option, target_in, target_of}
use Rattle.gm_script.specs.Reading.{ask_named, ask_from, ask_of}

pub asked_same : (types : List Specification) (name rest : List ℕ) (hint found : Option (List ℕ))
    (behind text : List ℕ) (target : ℕ)
    → hint ≡ option_in (codes "index=") rest → behind ≡ past_option (codes "index=") rest
    → found ≡ option_in (codes "target=") behind → text ≡ past_option (codes "target=") behind
    → Some target ≡ target_of found → ask_named types name hint target text ≡ ask_of types name rest
unfolding ask_of
asked_same types name rest hint found behind text target h b f t n =
    ap (λ o. ask_from types name hint o text) n
    ∙ ap (λ d. ask_from types name hint (target_of d) text) (f ∙ ap (option_in (codes "target=")) b)
    ∙ ap₂ (λ i x. ask_from types name i (target_of (target_in rest)) x) h
    (t ∙ ap (past_option (codes "target=")) b)
