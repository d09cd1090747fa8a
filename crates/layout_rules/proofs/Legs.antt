-- The tasks of a layout are the tasks of one leg.
use Rattle.std.proofs.Common.{◌≡◌, ℕ, zero, suc, ◌<◌, ◌≤◌, List, [], ◌∷◌, length, refl, ap, ◌∙◌, arith}
use Rattle.dataflow_model.specs.declared.ending.Ending.TheVariants.{AtCut, Asked}
use Rattle.dataflow_model.specs.Leg.{Until, ToEnd, ToCut, TillAsked, count_at, until_at, ending_of, limit_of, leg_of}
use Rattle.layout_rules.specs.Layouts.{abstract_task}
use Rattle.layout_rules.specs.Laws.{AreRising, TasksAreOneLeg}

-- the first limit is at least where the leg begins
first_limit : (begin : ℕ → ℕ → ℕ) (saves : List (List (List ℕ))) (until : Until) (size : ℕ → ℕ → ℕ) (x q : ℕ) → AreRising begin saves (until_at size until) → begin x q ≤ limit_of size until saves 0 x q
first_limit begin [] until size x q h = h x q
first_limit begin (cut ∷ cuts) until size x q h = h.0 x q

next_limit : (begin : ℕ → ℕ → ℕ) (saves : List (List (List ℕ))) (until : Until) (size : ℕ → ℕ → ℕ) (m x q : ℕ) → AreRising begin saves (until_at size until) → m < length saves → limit_of size until saves m x q ≤ limit_of size until saves (suc m) x q
next_limit begin [] until size m x q h l = absurd (omega (arith, l))
next_limit begin (cut ∷ cuts) until size zero x q h l = first_limit (count_at cut) cuts until size x q h.1
next_limit begin (cut ∷ cuts) until size (suc m) x q h l = next_limit (count_at cut) cuts until size m x q h.1 (omega (arith, l))

pub last_limit : (saves : List (List (List ℕ))) (until : Until) (size : ℕ → ℕ → ℕ) (x q : ℕ) → limit_of size until saves (length saves) x q ≡ until_at size until x q
last_limit [] until size x q = refl
last_limit (cut ∷ cuts) until size x q = last_limit cuts until size x q

whole : (until : Until) (size : ℕ → ℕ → ℕ) (x q : ℕ) → (ending_of until ≡ AtCut → ⊥) → until_at size until x q ≡ size x q
whole ToEnd size x q other = refl
whole (ToCut cut) size x q other = absurd (other refl)
whole TillAsked size x q other = refl

pub till_asked : (until : Until) → ending_of until ≡ Asked → until ≡ TillAsked
till_asked ToEnd e = absurd cc
till_asked (ToCut cut) e = absurd cc
till_asked TillAsked e = refl

pub tasks_are_one_leg : TasksAreOneLeg
tasks_are_one_leg p e stages w n begin saves until start route starts =
    let task = abstract_task p e (leg_of n saves until e.size) stages in
    record {
      alike = λ t l. (refl, refl, refl);
      from = λ t q l a k. (let s = starts t q l a k in let f = first_limit (count_at begin) saves until e.size (task t).source ((task t).partition q) route.rising in omega (arith, s, f));
      rises = λ t m q l a k h. next_limit (count_at begin) saves until e.size m (task t).source ((task t).partition q) route.rising h;
      within = λ t q l a k. (let s = last_limit saves until e.size (task t).source ((task t).partition q) in let f = route.within (task t).source ((task t).partition q) in omega (arith, s, f));
      whole = λ t q l a k other. last_limit saves until e.size (task t).source ((task t).partition q) ∙ whole until e.size (task t).source ((task t).partition q) other;
      asked = λ a. ap length (route.asked (till_asked until a));
    }
