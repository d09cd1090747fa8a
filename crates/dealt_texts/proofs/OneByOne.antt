-- Texts that are taken a step one after the other.
use Rattle.std.proofs.Common.{◌≡◌, ℕ, ◌<◌, ◌≤◌, ◌+◌, List, length, get_or, set, length-set, inl, inr, refl, sym, ap, subst, ◌∙◌, arith}
use Rattle.std.proofs.lemmas.Bool.{cases_eq}
use Rattle.std.proofs.lemmas.List.{get_or-set_same, get_or-set_other}
use Rattle.dealt_texts.specs.Parts.{Growing, nothing}
use Rattle.dealt_texts.specs.Steps.{Each}

-- the texts before a place are taken a step, and the others are as they were
pub record Done (step : ℕ → Growing → Growing) (place : ℕ) (old now : List Growing) : Type 0 where
  pub same : length now ≡ length old
  pub done : (i : ℕ) → i < place → get_or now i nothing ≡ step i (get_or old i nothing)
  pub rest : (i : ℕ) → place ≤ i → get_or now i nothing ≡ get_or old i nothing

pub none_done : (step : ℕ → Growing → Growing) (old : List Growing) → Done step 0 old old
none_done step old = record { same = refl; done = λ i h. absurd (omega arith); rest = λ i h. refl }

pub one_done : (step : ℕ → Growing → Growing) (place : ℕ) (old now : List Growing) (x : Growing) → place < length now → x ≡ step place (get_or now place nothing) → Done step place old now → Done step (place + 1) old (set now place x)
one_done step place old now x within is so_far =
    record {
      same = length-set now place x ∙ so_far.same;
      done = λ i h. elim (cases_eq i place) [
        | inl e ↦ subst (λ k. get_or (set now place x) k nothing ≡ step k (get_or old k nothing)) (sym e) (get_or-set_same now place x nothing within ∙ is ∙ ap (step place) (so_far.rest place (omega arith)))
        | inr other ↦ get_or-set_other now place i x nothing other ∙ so_far.done i (omega (arith, h, other))
      ];
      rest = λ i h. get_or-set_other now place i x nothing (λ e. omega (arith, e, h)) ∙ so_far.rest i (omega arith);
    }

pub all_done : (step : ℕ → Growing → Growing) (place : ℕ) (old now : List Growing) → length old ≤ place → Done step place old now → Each step old now
all_done step place old now all so_far = record { same = so_far.same; each = λ i h. so_far.done i (omega arith) }
