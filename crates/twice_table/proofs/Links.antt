-- Codes in chains, one more at a time.
use Rattle.std.specs.Prelude.{◌==◌}
use Rattle.std.proofs.Common.{Bool, true, false, ◌&&◌, ◌≡◌, ◌≢◌, ◌∙◌, sym, ap, subst, refl, ℕ, ◌+◌, ◌-◌, ◌%◌, ◌^◌, ◌<◌, ◌≤◌, inl, inr, List, [], ◌∷◌, ◌++◌, length, get_or, length-append, arith}
use Rattle.std.proofs.Math.ListN.{set, length-set}
use Rattle.std.proofs.Math.Seq.{map-set_same, get_or-append_seam}
use Rattle.std.proofs.lemmas.Bool.{cases_eq, cases_lt}
use Rattle.std.proofs.lemmas.List.{get_or-set_other, get_or-map, get_or_default, get_or_append_left, length-map, map-append}
use Rattle.std.proofs.lemmas.Grind.{common_steps, get_or-set_at}
use Rattle.twice_table.specs.Linked.{IsLast, AreLasts, AreBefores, AreLinked, codes_of}
use Rattle.twice_table.specs.declared.chains.Link.{Link}

pub last_kept : (chains chain : ℕ) (codes : List ℕ) (i place : ℕ) → IsLast chains chain codes i place → get_or codes i 0 % chains ≢ chain → IsLast chains chain codes (i + 1) place
last_kept chains chain codes i place old other = (omega (arith, old.0), (λ j h k. elim (cases_lt j i) [ inl below ↦ old.1 j h below | inr above ↦ subst (λ (n : ℕ). get_or codes n 0 % chains ≢ chain) (omega arith) other ]), old.2)

pub last_new : (chains chain : ℕ) (codes : List ℕ) (i : ℕ) → get_or codes i 0 % chains ≡ chain → IsLast chains chain codes (i + 1) (i + 1)
last_new chains chain codes i same = (omega arith, (λ j h k. absurd (omega arith)), λ h. subst (λ (n : ℕ). get_or codes n 0 % chains ≡ chain) (omega arith) same)

pub lasts_step : (codes lasts : List ℕ) (i chain : ℕ) → chain < length lasts → get_or codes i 0 % length lasts ≡ chain → AreLasts codes lasts i → AreLasts codes (set lasts chain (i + 1)) (i + 1)
lasts_step codes lasts i chain within here old other h =
    let size = length-set lasts chain (i + 1) in
    let k : other < length lasts = omega arith in
    subst (λ (n : ℕ). IsLast n other codes (i + 1) (get_or (set lasts chain (i + 1)) other 0)) (sym size) (
    elim (cases_eq other chain) [
      | inl same ↦ subst (λ (n : ℕ). IsLast (length lasts) other codes (i + 1) n) (sym (get_or-set_at lasts chain other (i + 1) 0 same within)) (last_new (length lasts) other codes i (here ∙ sym same))
      | inr ne ↦ subst (λ (n : ℕ). IsLast (length lasts) other codes (i + 1) n) (sym (get_or-set_other lasts chain other (i + 1) 0 ne)) (last_kept (length lasts) other codes i _ (old other k) (λ e. ne (sym e ∙ here)))
    ])

pub befores_step : (chains i code before : ℕ) (links : List Link) → i < length links → code ≡ get_or (codes_of links) i 0 → AreBefores chains links i → IsLast chains (code % chains) (codes_of links) i before
    → (codes_of (set links i (record { code = code; before = before })) ≡ codes_of links) × AreBefores chains (set links i (record { code = code; before = before })) (i + 1)
befores_step chains i code before links within same old last =
    let none : Link = record { code = 0; before = 0 } in
    let link : Link = record { code = code; before = before } in
    let field = λ (l : Link). l.code in
    let kept : codes_of (set links i link) ≡ codes_of links = map-set_same field links i link none (same ∙ get_or-map field links i none 0 within) in (
      kept,
      λ j h.
          subst (λ (codes : List ℕ). IsLast chains (get_or codes j 0 % chains) codes j (get_or (set links i link) j none).before) (sym kept) (
          elim (cases_eq j i) [
            | inl at ↦ subst (λ (l : Link). IsLast chains (get_or (codes_of links) j 0 % chains) (codes_of links) j l.before) (sym (get_or-set_at links i j link none at within)) (
                subst (λ (n : ℕ). IsLast chains (get_or (codes_of links) n 0 % chains) (codes_of links) n before) (sym at) (
                subst (λ (n : ℕ). IsLast chains (n % chains) (codes_of links) i before) same last))
            | inr ne ↦ subst (λ (l : Link). IsLast chains (get_or (codes_of links) j 0 % chains) (codes_of links) j l.before) (sym (get_or-set_other links i j link none ne)) (old j (omega (arith, ne)))
          ]),
    )

-- one more code is linked
pub step : (links : List Link) (lasts : List ℕ) (chains i before chain : ℕ) (seen written : Link) → i < length links → length lasts ≡ chains → chain < chains
    → seen ≡ get_or links i seen → written ≡ get_or links i written → chain ≡ seen.code % chains → before ≡ get_or lasts chain before
    → AreLasts (codes_of links) lasts i → AreBefores chains links i
    → (codes_of (set links i (record { code = written.code; before = before })) ≡ codes_of links)
    × AreLasts (codes_of (set links i (record { code = written.code; before = before }))) (set lasts chain (i + 1)) (i + 1)
    × AreBefores chains (set links i (record { code = written.code; before = before })) (i + 1)
step links lasts chains i before chain seen written within size fits seen_is written_is chain_is before_is ends befores =
    let none : Link = record { code = 0; before = 0 } in
    let field = λ (l : Link). l.code in
    let at : seen ≡ get_or links i none = seen_is ∙ get_or_default links i seen none within in
    let same : seen ≡ written = at ∙ sym (written_is ∙ get_or_default links i written none within) in
    let code : seen.code ≡ get_or (codes_of links) i 0 = ap field at ∙ sym (get_or-map field links i none 0 within) in
    let here : get_or (codes_of links) i 0 % length lasts ≡ chain = ap (λ (n : ℕ). get_or (codes_of links) i 0 % n) size ∙ ap (λ (n : ℕ). n % chains) (sym code) ∙ sym chain_is in
    let reach : chain < length lasts = omega arith in
    let last : IsLast (length lasts) chain (codes_of links) i (get_or lasts chain 0) = ends chain reach in
    let value : before ≡ get_or lasts chain 0 = before_is ∙ get_or_default lasts chain before 0 reach in
    let last_so : IsLast chains (written.code % chains) (codes_of links) i before =
    subst (λ (n : ℕ). IsLast chains (written.code % chains) (codes_of links) i n) (sym value) (
    subst (λ (n : ℕ). IsLast n (written.code % chains) (codes_of links) i (get_or lasts chain 0)) size (
    subst (λ (n : ℕ). IsLast (length lasts) n (codes_of links) i (get_or lasts chain 0)) (chain_is ∙ ap (λ (l : Link). l.code % chains) same) last)) in
    let stepped = befores_step chains i written.code before links within (ap field (sym same) ∙ code) befores last_so in
    (stepped.0, subst (λ (codes : List ℕ). AreLasts codes (set lasts chain (i + 1)) (i + 1)) (sym stepped.0) (lasts_step (codes_of links) lasts i chain reach here ends), stepped.1)

last_more : (chains chain count place : ℕ) (codes more : List ℕ) → count ≤ length codes → IsLast chains chain codes count place → IsLast chains chain (codes ++ more) count place
last_more chains chain count place codes more within last = (
  last.0,
  (λ i h k. subst (λ (n : ℕ). n % chains ≢ chain) (sym (get_or_append_left codes more 0 i (omega arith))) (last.1 i h k)),
  λ h. subst (λ (n : ℕ). n % chains ≡ chain) (sym (get_or_append_left codes more 0 (place - 1) (omega (arith, last.0)))) (last.2 h),
)

-- one more code behind the others
pub link_push : (links : List Link) (lasts : List ℕ) (code chain before number : ℕ) → AreLinked links lasts → length links < length lasts → chain ≡ code % length lasts → chain < length lasts
    → before ≡ get_or lasts chain before → number ≡ length links + 1 → number < 2 ^ 32
    → AreLinked (links ++ (record { code = code; before = before }) ∷ []) (set lasts chain number) × (codes_of (links ++ (record { code = code; before = before }) ∷ []) ≡ codes_of links ++ code ∷ [])
link_push links lasts code chain before number linked room chain_is reach before_is number_is small =
    let none : Link = record { code = 0; before = 0 } in
    let link : Link = record { code = code; before = before } in
    let field = λ (l : Link). l.code in
    let codes : codes_of (links ++ link ∷ []) ≡ codes_of links ++ code ∷ [] = map-append field links (link ∷ []) in
    let count : length (links ++ link ∷ []) ≡ length links + 1 = length-append links (link ∷ []) in
    let wide : length (set lasts chain number) ≡ length lasts = length-set lasts chain number in
    let known : length (codes_of links) ≡ length links = rw length-map refl in
    let new : get_or (codes_of links ++ code ∷ []) (length links) 0 ≡ code = ap (λ (n : ℕ). get_or (codes_of links ++ code ∷ []) n 0) (sym known) ∙ get_or-append_seam (codes_of links) code [] 0 in
    let here : get_or (codes_of links ++ code ∷ []) (length links) 0 % length lasts ≡ chain = ap (λ (n : ℕ). n % length lasts) new ∙ sym chain_is in
    let older : AreLasts (codes_of links ++ code ∷ []) lasts (length links) = λ other h. last_more (length lasts) other (length links) (get_or lasts other 0) (codes_of links) (code ∷ []) (omega arith) (linked.2 other h) in
    let ends = lasts_step (codes_of links ++ code ∷ []) lasts (length links) chain reach here older in
    let ends_so : AreLasts (codes_of (links ++ link ∷ [])) (set lasts chain number) (length (links ++ link ∷ [])) =
    subst (λ (n : ℕ). AreLasts (codes_of (links ++ link ∷ [])) (set lasts chain number) n) (sym count) (
    subst (λ (n : ℕ). AreLasts (codes_of (links ++ link ∷ [])) (set lasts chain n) (length links + 1)) (sym number_is) (
    subst (λ (some : List ℕ). AreLasts some (set lasts chain (length links + 1)) (length links + 1)) (sym codes) ends)) in
    let last : IsLast (length lasts) chain (codes_of links ++ code ∷ []) (length links) before = subst (λ (n : ℕ). IsLast (length lasts) chain (codes_of links ++ code ∷ []) (length links) n) (sym (before_is ∙ get_or_default lasts chain before 0 reach)) (older chain reach) in
    let befores : AreBefores (length (set lasts chain number)) (links ++ link ∷ []) (length (links ++ link ∷ [])) = λ i h.
    subst (λ (n : ℕ). IsLast n (get_or (codes_of (links ++ link ∷ [])) i 0 % n) (codes_of (links ++ link ∷ [])) i (get_or (links ++ link ∷ []) i none).before) (sym wide) (
    subst (λ (some : List ℕ). IsLast (length lasts) (get_or some i 0 % length lasts) some i (get_or (links ++ link ∷ []) i none).before) (sym codes) (
    elim (cases_lt i (length links)) [
      | inl below ↦ subst (λ (l : Link). IsLast (length lasts) (get_or (codes_of links ++ code ∷ []) i 0 % length lasts) (codes_of links ++ code ∷ []) i l.before) (sym (get_or_append_left links (link ∷ []) none i below)) (
          subst (λ (n : ℕ). IsLast (length lasts) (n % length lasts) (codes_of links ++ code ∷ []) i (get_or links i none).before) (sym (get_or_append_left (codes_of links) (code ∷ []) 0 i (omega arith))) (
          last_more (length lasts) (get_or (codes_of links) i 0 % length lasts) i (get_or links i none).before (codes_of links) (code ∷ []) (omega arith) (linked.3 i below)))
      | inr above ↦
          let at : i ≡ length links = omega arith in
          subst (λ (n : ℕ). IsLast (length lasts) (get_or (codes_of links ++ code ∷ []) n 0 % length lasts) (codes_of links ++ code ∷ []) n (get_or (links ++ link ∷ []) n none).before) (sym at) (
          subst (λ (l : Link). IsLast (length lasts) (get_or (codes_of links ++ code ∷ []) (length links) 0 % length lasts) (codes_of links ++ code ∷ []) (length links) l.before) (sym (get_or-append_seam links link [] none)) (
          subst (λ (n : ℕ). IsLast (length lasts) n (codes_of links ++ code ∷ []) (length links) before) (sym here) last))
    ])) in
    ((omega arith, omega arith, ends_so, befores), codes)

and_fails : (a b : ℕ) (test : Bool) → a ≡ b → (a == b && test) ≡ false → test ≡ false
and_fails a b test same h = grind (arith, common_steps)

-- of the codes from a place on, those that are this one fail
abbrev pub Passed : List ℕ → ℕ → (ℕ → Bool) → ℕ → Type 0
Passed codes code test count = (i : ℕ) → count ≤ i → i < length codes → get_or codes i 0 ≡ code → test i ≡ false

pub and_holds : (a b : ℕ) (test : Bool) → (a == b && test) ≡ true → test ≡ true
and_holds a b test h = grind (arith, common_steps)

abbrev pub none : Link
none = record { code = 0; before = 0 }

pub places_within : (links : List Link) (chains code count next : ℕ) → count ≤ length (codes_of links) → IsLast chains (code % chains) (codes_of links) count next → 0 < next → next - 1 < length links
places_within links chains code count next within last some =
    let known : length (codes_of links) ≡ length links = rw length-map refl in
    omega (arith, last.0)

pub find_start : (links : List Link) (lasts : List ℕ) (code chain : ℕ) → AreLinked links lasts → chain ≡ code % length lasts → chain < length lasts
    → IsLast (length lasts) (code % length lasts) (codes_of links) (length (codes_of links)) (get_or lasts chain 0)
find_start links lasts code chain linked is within =
    let known : length (codes_of links) ≡ length links = rw length-map refl in
    subst (λ (n : ℕ). IsLast (length lasts) (code % length lasts) (codes_of links) n (get_or lasts chain 0)) (sym known) (
    subst (λ (n : ℕ). IsLast (length lasts) n (codes_of links) (length links) (get_or lasts chain 0)) is (linked.2 chain within))

-- the last of a chain fails, and the next one to look at is that before it
pub passed_step : (links : List Link) (lasts : List ℕ) (code count next : ℕ) (test : ℕ → Bool) → AreLinked links lasts → count ≤ length (codes_of links)
    → IsLast (length lasts) (code % length lasts) (codes_of links) count next → Passed (codes_of links) code test count → 0 < next
    → ((get_or links (next - 1) none).code == code && test (next - 1)) ≡ false
    → (next - 1 ≤ length (codes_of links)) × IsLast (length lasts) (code % length lasts) (codes_of links) (next - 1) (get_or links (next - 1) none).before × Passed (codes_of links) code test (next - 1)
passed_step links lasts code count next test linked within last passed some fails =
    let place = next - 1 in
    let field = λ (l : Link). l.code in
    let below : place < length links = places_within links (length lasts) code count next within last some in
    let code_at : get_or (codes_of links) place 0 ≡ (get_or links place none).code = get_or-map field links place none 0 below in
    let chain : get_or (codes_of links) place 0 % length lasts ≡ code % length lasts = last.2 some in
    let before : IsLast (length lasts) (get_or (codes_of links) place 0 % length lasts) (codes_of links) place (get_or links place none).before = linked.3 place below in
    let before_so : IsLast (length lasts) (code % length lasts) (codes_of links) place (get_or links place none).before =
    subst (λ (n : ℕ). IsLast (length lasts) n (codes_of links) place (get_or links place none).before) chain before in (
      omega (arith, last.0),
      before_so,
      λ i h k same.
          elim (cases_lt i count) [
            | inl early ↦ elim (cases_eq i place) [
              | inl here ↦ subst (λ (n : ℕ). test n ≡ false) (sym here) (and_fails (get_or links place none).code code (test place) (sym code_at ∙ ap (λ (n : ℕ). get_or (codes_of links) n 0) (sym here) ∙ same) fails)
              | inr ne ↦ absurd (last.1 i (omega (arith, ne)) early (ap (λ (n : ℕ). n % length lasts) same))
            ]
            | inr late ↦ passed i late k same
          ],
    )
