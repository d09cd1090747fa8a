-- One pane of the windows is written.
use Rattle.std.proofs.Common.{◌≡◌, ℤ, Bool, true, false, cond, ◌&&◌, List, map, refl, sym, ap, subst, ◌∙◌, arith, Option, Some}
use Rattle.std.specs.Ordering.{int_eq}
use Rattle.std.specs.List.{IsDistinct}
use Rattle.std.specs.Map.{keys_of}
use Rattle.std.proofs.lemmas.Int.{ints}
use Rattle.plan_model.specs.declared.spec.WindowSpec.{WindowSpec}
use Rattle.plan_model.specs.declared.spec.Pane.{Pane}
use Rattle.plan_model.specs.Aggregates.{Aggregated}
use Rattle.aggregates.specs.Kinds.{AccData, IsAcc, kind_of}
use Rattle.window_state.specs.Windows.{acc_at, is_pane, IsStart, AreWindows}
use Rattle.window_state.specs.Places.{AreSound}

same_pane : (a b c d : ℤ) → (int_eq a b && int_eq c d) ≡ true → (a ≡ b) × (c ≡ d)
same_pane a b c d h = let e1 : a ≡ b = grind (arith, ints) in let e2 : c ≡ d = grind (arith, ints) in (e1, e2)

pub pane_from_test : (p q : Pane) → is_pane p q ≡ true → p ≡ q
pane_from_test p q h =
    let parts : (p.start ≡ q.start) × (p.key ≡ q.key) = same_pane p.start q.start p.key q.key h in
    λ i. record { start = parts.0 i; key = parts.1 i }

-- n is m with a at p
pub record Writes (p : Pane) (a : AccData) (m n : List (Pane × AccData)) : Type 0 where
  pub at : (q : Pane) → acc_at n q ≡ cond (is_pane p q) (Some a) (acc_at m q)
  pub distinct : IsDistinct is_pane (keys_of n)

some_same : (a b : AccData) → Some a ≡ Some b → a ≡ b
some_same a b e = cc

-- what holds in the pane, and held before at each other, holds at each
everywhere : (P : Pane → AccData → Type 0) (p : Pane) (a : AccData) (m n : List (Pane × AccData)) → Writes p a m n → P p a
    → ((q : Pane) (b : AccData) → acc_at m q ≡ Some b → P q b) → (q : Pane) (b : AccData) → acc_at n q ≡ Some b → P q b
everywhere P p a m n w here there q b is = by_case (is_pane p q) refl
  where
    by_case : (t : Bool) → is_pane p q ≡ t → P q b
    by_case true e =
        let same : a ≡ b = some_same a b (sym (w.at q ∙ ap (λ t. cond t (Some a) (acc_at m q)) e) ∙ is) in
        subst (λ x. P x b) (pane_from_test p q e) (subst (P p) same here)
    by_case false e = there q b (sym (w.at q ∙ ap (λ t. cond t (Some a) (acc_at m q)) e) ∙ is)

pub windows_written : (w : WindowSpec) (p : Pane) (a : AccData) (m n : List (Pane × AccData)) → Writes p a m n → AreWindows w m → a.kinds ≡ map kind_of w.aggregates → IsStart p.start → AreWindows w n
windows_written w p a m n writes_ h kinds start = record {
  distinct = writes_.distinct;
  kinds = everywhere (λ q b. b.kinds ≡ map kind_of w.aggregates) p a m n writes_ kinds h.kinds;
  starts = everywhere (λ q b. IsStart q.start) p a m n writes_ start h.starts;
}

pub sound_written : (p : Pane) (a : AccData) (m n : List (Pane × AccData)) → Writes p a m n → AreSound m → IsAcc a → AreSound n
sound_written p a m n w h here = everywhere (λ q b. IsAcc b) p a m n w here h

-- what is written in a pane is g of what stood there
pub written_there : (p : Pane) (f : Pane → Option Aggregated) (new : Option Aggregated) (g : Option Aggregated → Option Aggregated) → new ≡ g (f p)
    → (q : Pane) → cond (is_pane p q) new (f q) ≡ cond (is_pane p q) (g (f q)) (f q)
written_there p f new g is q = by_case (is_pane p q) refl
  where
    by_case : (t : Bool) → is_pane p q ≡ t → cond t new (f q) ≡ cond t (g (f q)) (f q)
    by_case true e = is ∙ ap (λ x. g (f x)) (pane_from_test p q e)
    by_case false e = refl
