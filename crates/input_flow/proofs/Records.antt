-- The records up to a cut.
use Rattle.std.proofs.Common.{◌≡◌, ℕ, zero, suc, ◌+◌, ◌<◌, ◌≤◌, Bool, List, [], ◌∷◌, ◌++◌, length, get_or, take, slice_index, refl, sym, ap, ◌∙◌, append-nil, append_assoc, arith}
use Rattle.std.specs.List.{AllZip, filter}
use Rattle.std.proofs.lemmas.List.Concat.{flat_map-append}
use Rattle.std.proofs.lemmas.List.Elements.{filter-append}
use Rattle.std.proofs.Math.Seq.{take-suc}
use Rattle.plain_data.specs.Record.{Record}
use Rattle.stream_model.specs.declared.entry.Marked.{Marked}
use Rattle.stream_model.specs.InputData.{records_of_entry, records_in}
use Rattle.stream_model.specs.Watermarks.{IsCut, records_before, records_before_in}
use Rattle.dataflow_model.specs.Message.{records_of}
use Rattle.dataflow_model.specs.Leg.{count_at}
use Rattle.dataflow_model.specs.Cuts.{joined}
use Rattle.layout_rules.specs.Below.{sum_below}
use Rattle.input_flow.specs.InputEntries.{message_of}
use Rattle.input_flow.proofs.Orderly.{records_of_message}

-- ---- lists, joined

pub joined_same : (n : ℕ) (f g : ℕ → List Record) → ((k : ℕ) → k < n → f k ≡ g k) → joined n f ≡ joined n g
joined_same zero f g h = refl
joined_same (suc n) f g h = λ j. joined_same n f g (λ k l. h k (omega (arith, l))) j ++ h n (omega arith) j

joined_front : (n : ℕ) (f : ℕ → List Record) → joined (suc n) f ≡ f 0 ++ joined n (λ k. f (suc k))
joined_front zero f = sym (append-nil (f 0))
joined_front (suc n) f = ap (λ l. l ++ f (suc n)) (joined_front n f) ∙ append_assoc (f 0) (joined n (λ k. f (suc k))) (f (suc n))

joined_add : (a b : ℕ) (f : ℕ → List Record) → joined (a + b) f ≡ joined a f ++ joined b (λ k. f (a + k))
joined_add a zero f = (let e : a + 0 ≡ a = omega arith in ap (λ n. joined n f) e) ∙ sym (append-nil (joined a f))
joined_add a (suc b) f =
    (let e : a + suc b ≡ suc (a + b) = omega arith in ap (λ n. joined n f) e)
    ∙ ap (λ l. l ++ f (a + b)) (joined_add a b f)
    ∙ append_assoc (joined a f) (joined b (λ k. f (a + k))) (f (a + b))

-- what is joined in one go is joined row by row
pub joined_rows : (rows : ℕ → ℕ) (n : ℕ) (f : ℕ → List Record) → joined (sum_below rows n) f ≡ joined n (λ x. joined (rows x) (λ k. f (sum_below rows x + k)))
joined_rows rows zero f = refl
joined_rows rows (suc n) f = joined_add (sum_below rows n) (rows n) f ∙ ap (λ l. l ++ joined (rows n) (λ k. f (sum_below rows n + k))) (joined_rows rows n f)

-- ---- entries

module _ (pass : Record → Bool) (d : Marked) where
  -- the records of an entry that pass
  abbrev pub kept : List Marked → ℕ → List Record
  kept es n = filter pass (records_of (message_of (get_or es n d).entry))

  one_partition : (es : List Marked) (m : ℕ) → m ≤ length es → joined m (kept es) ≡ filter pass (records_in (take m es))
  one_partition es zero l = refl
  one_partition es (suc m) l =
      let e : Marked = get_or es m d in
      (λ j. one_partition es m (omega (arith, l)) j ++ filter pass (records_of_message e.entry j))
      ∙ ap (λ rs. filter pass (records_in (take m es)) ++ filter pass rs) (sym (append-nil (records_of_entry e)))
      ∙ sym (filter-append pass (records_in (take m es)) (records_of_entry e ++ []))
      ∙ ap (filter pass) (sym (flat_map-append records_of_entry (take m es) (e ∷ [])))
      ∙ ap (λ t. filter pass (records_in t)) (sym (take-suc es m d (omega (arith, l))))

  one_source : (ps : List (List Marked)) (ns : List ℕ) → AllZip (λ p n. n ≤ length p) ps ns → joined (length ps) (λ k. joined (slice_index ns k) (kept (get_or ps k []))) ≡ filter pass (records_before_in ps ns)
  one_source [] ns cut = refl
  one_source (p ∷ ps) [] cut = absurd cut
  one_source (p ∷ ps) (n ∷ ns) cut =
      joined_front (length ps) (λ k. joined (slice_index (n ∷ ns) k) (kept (get_or (p ∷ ps) k [])))
      ∙ (λ j. one_partition p n cut.0 j ++ one_source ps ns cut.1 j)
      ∙ sym (filter-append pass (records_in (take n p)) (records_before_in ps ns))

  pub all_sources : (ss : List (List (List Marked))) (cs : List (List ℕ)) → IsCut ss cs
      → joined (length ss) (λ x. joined (length (get_or ss x [])) (λ k. joined (count_at cs x k) (kept (get_or (get_or ss x []) k [])))) ≡ filter pass (records_before ss cs)
  all_sources [] cs cut = refl
  all_sources (s ∷ ss) [] cut = absurd cut
  all_sources (s ∷ ss) (c ∷ cs) cut =
      joined_front (length ss) (λ x. joined (length (get_or (s ∷ ss) x [])) (λ k. joined (count_at (c ∷ cs) x k) (kept (get_or (get_or (s ∷ ss) x []) k []))))
      ∙ (λ j. one_source s c cut.0 j ++ all_sources ss cs cut.1 j)
      ∙ sym (filter-append pass (records_before_in s c) (records_before ss cs))
