-- What is spread over outputs.
use Rattle.std.proofs.Common.{◌≡◌, ℕ, zero, suc, ◌*◌, ◌/◌, ◌<◌, ◌≤◌, ◌==◌, Bool, true, false, List, [], ◌∷◌, ◌++◌, map, length, refl, sym, ap, ◌∙◌, arith, inl, inr, eq-eqb}
use Rattle.std.specs.Prelude.{ℤ, if◌then◌else◌, Option, Some, None}
use Rattle.std.proofs.Math.Nat.{mul-one, div-eq_of_lt}
use Rattle.key_groups.specs.Groups.{key_group}
use Rattle.std.specs.List.{filter, range_with_len}
use Rattle.plain_data.specs.Record.{Record, at}
use Rattle.columns.specs.Table.{Table}
use Rattle.plan_model.specs.declared.spec.FilterSpec.{FilterSpec}
use Rattle.plan_model.specs.Windows.{passes}
use Rattle.std.proofs.lemmas.List.{append-nil, length-map}
use Rattle.std.proofs.lemmas.List.FromFn.{length-range_with_len}
use Rattle.std.proofs.lemmas.Bool.{cases_eq, ne_eqb, eqb-true}
use Rattle.dataflow_model.specs.declared.message.Message.{Message}
use Rattle.dataflow_model.specs.declared.message.Message.TheVariants.{Rows}
use Rattle.dataflow_model.specs.Routes.{spread, batch}
use Rattle.task_steps.specs.declared.setup.Split.{Split}
use Rattle.key_dealing.specs.Dealing.{owner, dealt}
use Rattle.task_steps.specs.Pending.{numbered}
use Rattle.task_steps.specs.Sending.{sends}
use Rattle.task_steps.proofs.Numbered.{numbered_spread}

pub filter_all : {X : Type 0} (test : X → Bool) (xs : List X) → ((x : X) → test x ≡ true) → filter test xs ≡ xs
filter_all test [] h = refl
filter_all test (x ∷ xs) h = rw (h x) (ap (λ l. x ∷ l) (filter_all test xs h))

pub spread_alike : (f g : ℕ → List Message) (n : ℕ) → ((j : ℕ) → f j ≡ g j) → spread n f ≡ spread n g
spread_alike f g zero h = refl
spread_alike f g (suc n) h = λ i. spread_alike f g n h i ++ map (λ m. (n, m)) (h n i)

pub spread_none : (f : ℕ → List Message) (n : ℕ) → ((j : ℕ) → f j ≡ []) → spread n f ≡ []
spread_none f zero h = refl
spread_none f (suc n) h = (λ i. spread_none f n h i ++ map (λ m. (n, m)) (h n i))

-- one output alone has messages
pub spread_above : (f : ℕ → List Message) (c n : ℕ) → n < suc c → ((j : ℕ) → j < c → f j ≡ []) → spread n f ≡ []
spread_above f c zero l h = refl
spread_above f c (suc n) l h = (λ i. spread_above f c n (omega arith) h i ++ map (λ m. (n, m)) (h n (omega arith) i))

pub spread_one : (f : ℕ → List Message) (c n : ℕ) → c < n → ((j : ℕ) → (j ≡ c → ⊥) → f j ≡ []) → spread n f ≡ map (λ m. (c, m)) (f c)
spread_one f c zero l h = absurd (omega arith)
spread_one f c (suc n) l h = elim (cases_eq n c) [
  | inl e ↦ ap (λ l. l ++ map (λ m. (n, m)) (f n)) (spread_above f c n (omega arith) (λ j k. h j (λ same. omega arith))) ∙ ap (λ j. map (λ m. (j, m)) (f j)) e
  | inr ne ↦ (λ i. spread_one f c n (omega arith) h i ++ map (λ m. (n, m)) (h n ne i)) ∙ append-nil (map (λ m. (c, m)) (f c))
]

same_if : {X : Type 0} (b : Bool) (x : X) → (if b then x else x) ≡ x
same_if true x = refl
same_if false x = refl

pub sends_none : (split : Option Split) (n key c : ℕ) (t : Table) → t.rows ≡ [] → sends split n key c t ≡ []
sends_none None n key c t e = spread_none (λ j. batch t.width (if j == c then t.rows else [])) n (λ j. ap (λ l. batch t.width (if j == c then l else [])) e ∙ ap (batch t.width) (same_if (j == c) []))
sends_none (Some s) n key c t e = spread_none (λ j. batch t.width (filter (λ r. owner s.max s.par (at key r) == j) t.rows)) n (λ j. ap (λ l. batch t.width (filter (λ r. owner s.max s.par (at key r) == j) l)) e)

batch_some : (w : ℕ) (rows : List Record) → (rows ≡ [] → ⊥) → batch w rows ≡ Rows (record { width = w; rows = rows }) ∷ []
batch_some w [] ne = absurd (ne refl)
batch_some w (r ∷ rows) ne = refl

pub sends_whole : (n key c : ℕ) (t : Table) → c < n → (t.rows ≡ [] → ⊥) → sends None n key c t ≡ (c, Rows t) ∷ []
sends_whole n key c t l ne =
    spread_one (λ j. batch t.width (if j == c then t.rows else [])) c n l (λ j other. ap (λ b. batch t.width (if b then t.rows else [])) (ne_eqb j c other))
    ∙ ap (λ b. map (λ m. (c, m)) (batch t.width (if b then t.rows else []))) (eq-eqb c c refl)
    ∙ ap (map (λ m. (c, m))) (batch_some t.width t.rows ne)

pub sends_dealt : (s : Split) (key c : ℕ) (t : Table) → numbered 0 (map (dealt s.max s.par key t) (range_with_len 0 s.par)) ≡ sends (Some s) s.par key c t
sends_dealt s key c t = numbered_spread (dealt s.max s.par key t) s.par

pub sends_split : (s : Split) (n key c : ℕ) (t : Table) → s.par ≡ n → sends (Some s) s.par key 0 t ≡ sends (Some s) n key c t
sends_split s n key c t e = ap (λ k. sends (Some s) k key c t) e

filter_none : {X : Type 0} (test : X → Bool) (xs : List X) → ((x : X) → test x ≡ false) → filter test xs ≡ []
filter_none test [] h = refl
filter_none test (x ∷ xs) h = rw (h x) (filter_none test xs h)

-- one subtask owns every key
owner_one : (max par : ℕ) (key : ℤ) → par ≡ 1 → 1 ≤ max → owner max par key ≡ 0
owner_one max par key one l =
    let h : key_group max key < max = omega arith in
    ap (λ p. key_group max key * p / max) one ∙ ap (λ n. n / max) (mul-one (key_group max key)) ∙ div-eq_of_lt h

pub sends_one : (s : Split) (key c : ℕ) (t : Table) → s.par ≡ 1 → 1 ≤ s.max → (t.rows ≡ [] → ⊥) → sends (Some s) s.par key c t ≡ (0, Rows t) ∷ []
sends_one s key c t one l ne =
    let own = λ (r : Record). owner_one s.max s.par (at key r) one l in
    spread_one (λ j. batch t.width (filter (λ r. owner s.max s.par (at key r) == j) t.rows)) 0 s.par (omega arith)
    (λ j other. ap (batch t.width) (filter_none (λ r. owner s.max s.par (at key r) == j) t.rows (λ r. ap (λ n. n == j) (own r) ∙ ne_eqb 0 j (λ e. other (sym e)))))
    ∙ ap (λ l. map (λ m. (0, m)) (batch t.width l)) (filter_all (λ r. owner s.max s.par (at key r) == 0) t.rows (λ r. ap (λ n. n == 0) (own r)))
    ∙ ap (map (λ m. (0, m))) (batch_some t.width t.rows ne)

-- without filters every record passes
pub filter_nothing : (fs : List FilterSpec) (rows : List Record) → true ≡ (length fs == 0) → filter (passes fs) rows ≡ rows
filter_nothing [] rows e = filter_all (passes []) rows (λ r. refl)
filter_nothing (f ∷ fs) rows e = (let h = eqb-true (length (f ∷ fs)) 0 (sym e) in absurd (omega arith))

pub length_dealt : (max par key : ℕ) (t : Table) (pieces : List Table) → pieces ≡ map (dealt max par key t) (range_with_len 0 par) → length pieces ≡ par
length_dealt max par key t pieces e = ap length e ∙ length-map (range_with_len 0 par) (dealt max par key t) ∙ length-range_with_len 0 par
