-- Texts that are taken steps side by side.
use Rattle.std.proofs.Common.{◌≡◌, ℕ, ◌<◌, ◌≤◌, ◌+◌, Bool, true, false, List, [], ◌∷◌, ◌++◌, map, take, length, get_or, slice_get, Option, None, Some, set, length-set, inl, inr, refl, sym, ap, subst, ◌∙◌, append_assoc, arith}
use Rattle.std.specs.Prelude.{codes}
use Rattle.std.specs.Io.KnownBytes.{Appends}
use Rattle.std.specs.List.{join_with_byte}
use Rattle.std.proofs.KnownBytes.{Appends-nil, Appends-trans}
use Rattle.std.proofs.lemmas.Bool.{cases_eq}
use Rattle.std.proofs.lemmas.List.{get_or-set_same, get_or-set_other, get_or-map, append-nil, length-map, map-append, map-set, take_more}
use Rattle.std.proofs.lemmas.List.Concat.{flat_map-append}
use Rattle.std.proofs.lemmas.List.Sums.{fold-append}
use Rattle.std.proofs.lemmas.Simd.{map-map}
use Rattle.plain_data.specs.Record.{Record}
use Rattle.columns.specs.Table.{Table}
use Rattle.columns.specs.Parts.{with_rows}
use Rattle.key_dealing.specs.Dealing.{rows_at}
use Rattle.cut_texts.specs.Words.{before_part}
use Rattle.cut_texts.proofs.Spelled.{part_more}
use Rattle.stream_model.specs.declared.entry.Entry.{Entry}
use Rattle.stream_model.specs.declared.entry.Marked.{Marked}
use Rattle.input_parts.specs.Parts.{entry_of_rows, entry_kept, entries_kept, entries_left, unmarked}
use Rattle.part_texts.specs.InputTexts.{rows_entry, entry_text, entries_text, partition_text}
use Rattle.part_texts.specs.PartTexts.{Growing, growing, with_words, before_entry, with_text, with_entry, with_entries, Known, unknown, Stands, Takes, Each, Grow}

-- ---- one text after the other

-- the texts before a place are taken a step, and the others are as they were
pub record Done (step : ℕ → Growing → Growing) (place : ℕ) (old now : List Known) : Type 0 where
  pub same : length now ≡ length old
  pub done : (i : ℕ) → i < place → Takes (step i) (get_or old i unknown) (get_or now i unknown)
  pub rest : (i : ℕ) → place ≤ i → get_or now i unknown ≡ get_or old i unknown

pub none_done : (step : ℕ → Growing → Growing) (old : List Known) → Done step 0 old old
none_done step old = record { same = refl; done = λ i h. absurd (omega arith); rest = λ i h. refl }

pub one_done : (step : ℕ → Growing → Growing) (place : ℕ) (old now : List Known) (x : Known) → place < length now → Takes (step place) (get_or now place unknown) x → Done step place old now → Done step (place + 1) old (set now place x)
one_done step place old now x within taken so_far =
    record {
      same = length-set now place x ∙ so_far.same;
      done = λ i h. elim (cases_eq i place) [
        | inl e ↦ subst (λ k. Takes (step k) (get_or old k unknown) (get_or (set now place x) k unknown)) (sym e)
            (subst (λ z. Takes (step place) z (get_or (set now place x) place unknown)) (so_far.rest place (omega arith))
            (subst (Takes (step place) (get_or now place unknown)) (sym (get_or-set_same now place x unknown within)) taken))
        | inr other ↦ subst (Takes (step i) (get_or old i unknown)) (sym (get_or-set_other now place i x unknown other)) (so_far.done i (omega (arith, h, other)))
      ];
      rest = λ i h. get_or-set_other now place i x unknown (λ e. omega (arith, e, h)) ∙ so_far.rest i (omega arith);
    }

-- the same of what is known of parts, of which one is changed
pub part_done : {X : Type 0} (f : X → Known) (step : ℕ → Growing → Growing) (place : ℕ) (old now : List X) (d x : X) → place < length now
    → Takes (step place) (f (get_or now place d)) (f x) → Done step place (map f old) (map f now) → Done step (place + 1) (map f old) (map f (set now place x))
part_done f step place old now d x within taken so_far =
    subst (Done step (place + 1) (map f old)) (sym (map-set f now place x))
    (one_done step place (map f old) (map f now) (f x) (omega (arith, within, length-map now f))
    (subst (λ z. Takes (step place) z (f x)) (sym (get_or-map f now place d unknown within)) taken) so_far)

pub all_done : (step : ℕ → Growing → Growing) (place : ℕ) (old now : List Known) → length old ≤ place → Done step place old now → Each step old now
all_done step place old now all so_far = record { same = so_far.same; each = λ i h. so_far.done i (omega arith) }

-- ---- one step after the other

pub same_each : (old : List Known) → Each (λ i p. p) old old
same_each old = record { same = refl; each = λ i h start p s. s }

pub then_step : (f g : ℕ → Growing → Growing) (a b c : List Known) → Each f a b → Each g b c → Each (λ i p. g i (f i p)) a c
then_step f g a b c first next =
    record { same = next.same ∙ first.same; each = λ i h start p s. next.each i (omega (arith, h, first.same)) start (f i p) (first.each i h start p s) }

pub each_is : (f g : ℕ → Growing → Growing) (a b : List Known) → ((i : ℕ) → i < length a → (p : Growing) → f i p ≡ g i p) → Each f a b → Each g a b
each_is f g a b is h = record { same = h.same; each = λ i l start p s. subst (λ q. Stands start q (get_or b i unknown)) (is i l p) (h.each i l start p s) }

pub then_more : (f g : ℕ → List ℕ) (a b c : List Known) → Grow f a b → Grow g b c → Grow (λ i. f i ++ g i) a c
then_more f g a b c first next =
    record {
      same = next.same ∙ first.same;
      each = λ i h. Appends-trans (get_or a i unknown).text (get_or b i unknown).text (get_or c i unknown).text (f i) (g i) (first.each i h) (next.each i (omega (arith, h, first.same)));
    }

pub grow_is : (f g : ℕ → List ℕ) (a b : List Known) → ((i : ℕ) → f i ≡ g i) → Grow f a b → Grow g a b
grow_is f g a b is h = record { same = h.same; each = λ i l. subst (Appends (get_or a i unknown).text (get_or b i unknown).text) (is i) (h.each i l) }

-- nothing has been put yet from here on
begun : (s : Known) → Stands s.text (growing [] s.is_first) s
begun s = (Appends-nil s.text, refl)

pub words_more : (words : List ℕ) (a b : List Known) → Each (λ i p. with_words words p) a b → Grow (λ i. words) a b
words_more words a b h = record { same = h.same; each = λ i l. (h.each i l (get_or a i unknown).text (growing [] (get_or a i unknown).is_first) (begun (get_or a i unknown))).0 }

-- ---- one entry

-- a comma before it, if it is not the first, and its text in three parts
pub entry_put : (a b c d e : Option (List ℕ)) (first second : Bool) (x y z : List ℕ) → second ≡ false
    → Appends a b (before_entry first) → Appends b c x → Appends c d y → Appends d e z
    → Takes (λ p. with_text p (x ++ (y ++ z))) (record { text = a; is_first = first }) (record { text = e; is_first = second })
entry_put a b c d e first second x y z no_more comma one two three start p s = (
  subst (λ f. Appends start e ((p.text ++ before_entry f) ++ (x ++ (y ++ z)))) s.1
      (Appends-trans start b e (p.text ++ before_entry first) (x ++ (y ++ z)) (Appends-trans start a b p.text (before_entry first) s.0 comma)
      (Appends-trans b c e x (y ++ z) one (Appends-trans c d e y z two three))),
  no_more,
)

-- the entry of the rows at places is none where there is no place
pub no_rows : (width : ℕ) (rows : List Record) (places : List ℕ) (s : Known) → places ≡ [] → Takes (λ p. with_entries p (entry_of_rows width (rows_at rows places))) s s
no_rows width rows places s none start p h = subst (λ ks. Stands start (with_entries p (entry_of_rows width (rows_at rows ks))) s) (sym none) h

pub some_rows : (table : Table) (places : List ℕ) (s t : Known) → 0 < length places
    → Takes (λ p. with_text p (rows_entry (with_rows table (rows_at table.rows places)))) s t → Takes (λ p. with_entries p (entry_of_rows table.width (rows_at table.rows places))) s t
some_rows table [] s t some h = absurd (omega arith)
some_rows table (place ∷ places) s t some h = h

-- ---- entries with commas between them

-- behind an entry each has a comma before it
later : (text : List ℕ) (e : Entry) (es : List Entry) → (with_entries (growing text false) (e ∷ es)).text ≡ text ++ (44 ∷ entries_text (e ∷ es))
later text e [] = append_assoc text (codes ",") (entry_text e)
later text e (d ∷ es) = later ((text ++ codes ",") ++ entry_text e) d es ∙ append_assoc (text ++ codes ",") (entry_text e) (44 ∷ entries_text (d ∷ es)) ∙ append_assoc text (codes ",") (entry_text e ++ (44 ∷ entries_text (d ∷ es)))

first : (text : List ℕ) (es : List Entry) → (with_entries (growing text true) es).text ≡ text ++ entries_text es
first text [] = sym (append-nil text)
first text (e ∷ []) = ap (λ t. t ++ entry_text e) (append-nil text)
first text (e ∷ d ∷ es) =
    later ((text ++ []) ++ entry_text e) d es ∙ ap (λ t. (t ++ entry_text e) ++ (44 ∷ entries_text (d ∷ es))) (append-nil text)
    ∙ append_assoc text (entry_text e) (44 ∷ entries_text (d ∷ es))

-- the entries of a partition, as far as they are gone through
abbrev pub kept_of : (ℕ → Record → Bool) → List Marked → ℕ → Growing → Growing
kept_of keep es i p = with_entries p (entries_left (keep i) es)

pub no_entries : (keep : ℕ → Record → Bool) (es : List Marked) (old : List Known) → Each (kept_of keep (take 0 es)) old old
no_entries keep es old = same_each old

pub entries_more : (keep : ℕ → Record → Bool) (es : List Marked) (place : ℕ) (d : Marked) (a b c : List Known) → place < length es
    → Each (kept_of keep (take place es)) a b → Each (λ i p. with_entries p (entry_kept (keep i) (get_or es place d).entry)) b c → Each (kept_of keep (take (place + 1) es)) a c
entries_more keep es place d a b c within so_far next =
    each_is (λ i p. with_entries (kept_of keep (take place es) i p) (entry_kept (keep i) e.entry)) (kept_of keep (take (place + 1) es)) a c (λ i l p. is i p)
    (then_step (kept_of keep (take place es)) (λ i p. with_entries p (entry_kept (keep i) e.entry)) a b c so_far next)
  where
    e : Marked
    e = get_or es place d

    kept : (i : ℕ) → entries_left (keep i) (take (place + 1) es) ≡ entries_left (keep i) (take place es) ++ entry_kept (keep i) e.entry
    kept i =
        ap (entries_left (keep i)) (take_more es place d within)
        ∙ ap (entries_kept (keep i)) (map-append (λ m. m.entry) (take place es) (e ∷ []))
        ∙ flat_map-append (entry_kept (keep i)) (unmarked (take place es)) (e.entry ∷ [])
        ∙ ap (λ l. entries_left (keep i) (take place es) ++ l) (append-nil (entry_kept (keep i) e.entry))

    is : (i : ℕ) (p : Growing) → with_entries (kept_of keep (take place es) i p) (entry_kept (keep i) e.entry) ≡ kept_of keep (take (place + 1) es) i p
    is i p = sym (ap (with_entries p) (kept i) ∙ fold-append with_entry p (entries_left (keep i) (take place es)) (entry_kept (keep i) e.entry))

pub partition_more : (keep : ℕ → Record → Bool) (es : List Marked) (a b c d : List Known) → Each (λ i p. with_words (codes "[") p) a b → Each (kept_of keep es) b c
    → Each (λ i p. with_words (codes "]") p) c d → Grow (λ i. partition_text (entries_left (keep i) es)) a d
partition_more keep es a b c d opened filled closed =
    record { same = closed.same ∙ filled.same ∙ opened.same; each = λ i h. at i h }
  where
    at : (i : ℕ) → i < length a → Appends (get_or a i unknown).text (get_or d i unknown).text (partition_text (entries_left (keep i) es))
    at i h =
        let kept = entries_left (keep i) es in
        let s = get_or a i unknown in
        let bracket = growing (codes "[") true in
        let one = opened.each i h s.text (growing [] s.is_first) (begun s) in
        let two = filled.each i (omega (arith, h, opened.same)) s.text bracket one in
        let three = closed.each i (omega (arith, h, filled.same, opened.same)) s.text (with_entries bracket kept) two in
        subst (Appends s.text (get_or d i unknown).text) (ap (λ t. t ++ codes "]") (first (codes "[") kept) ∙ append_assoc (codes "[") (entries_text kept) (codes "]")) three.0

-- ---- what has commas between it

pub part_grown : {X : Type 0} (f : ℕ → X → List ℕ) (xs : List X) (place : ℕ) (x : X) (a b c d : List Known) → slice_get xs place ≡ Some x
    → Grow (λ i. join_with_byte 44 (map (f i) (take place xs))) a b → Grow (λ i. before_part (codes ",") place) b c → Grow (λ i. f i x) c d
    → Grow (λ i. join_with_byte 44 (map (f i) (take (place + 1) xs))) a d
part_grown f xs place x a b c d at so_far between next =
    let before : ℕ → List ℕ = λ i. join_with_byte 44 (map (f i) (take place xs)) in
    let comma = before_part (codes ",") place in
    grow_is (λ i. (before i ++ comma) ++ f i x) (λ i. join_with_byte 44 (map (f i) (take (place + 1) xs))) a d
    (λ i. part_more 44 (f i) xs place x [] (before i) (before i ++ comma) ((before i ++ comma) ++ f i x) at refl refl refl)
    (then_more (λ i. before i ++ comma) (λ i. f i x) a c d (then_more before (λ i. comma) a b c so_far between) next)

pub nothing_grown : (f : ℕ → List ℕ) (a : List Known) → ((i : ℕ) → f i ≡ []) → Grow f a a
nothing_grown f a none = record { same = refl; each = λ i h. subst (Appends (get_or a i unknown).text (get_or a i unknown).text) (sym (none i)) (Appends-nil (get_or a i unknown).text) }

-- ---- what is left of each text is written

-- before a place nothing is left, and the others are as they were
pub record Ended {X : Type 0} (f g : X → Option (List ℕ)) (place : ℕ) (old now : List X) : Type 0 where
  pub same : length now ≡ length old
  pub done : (i : ℕ) → i < place → Appends (get_or (map f old) i None) (get_or (map g now) i None) []
  pub rest : (i : ℕ) → place ≤ i → get_or (map f now) i None ≡ get_or (map f old) i None

pub none_ended : {X : Type 0} (f g : X → Option (List ℕ)) (old : List X) → Ended f g 0 old old
none_ended f g old = record { same = refl; done = λ i h. absurd (omega arith); rest = λ i h. refl }

pub one_ended : {X : Type 0} (f g : X → Option (List ℕ)) (place : ℕ) (old now : List X) (d x : X) → place < length now
    → Appends (f (get_or now place d)) (g x) [] → Ended f g place old now → Ended f g (place + 1) old (set now place x)
one_ended f g place old now d x within ended so_far =
    let at_place : get_or (map g (set now place x)) place None ≡ g x = ap (λ l. get_or l place None) (map-set g now place x) ∙ get_or-set_same (map g now) place (g x) None (omega (arith, within, length-map now g)) in
    let was : f (get_or now place d) ≡ get_or (map f old) place None = sym (get_or-map f now place d None within) ∙ so_far.rest place (omega arith) in
    let here : Appends (get_or (map f old) place None) (get_or (map g (set now place x)) place None) [] =
    subst (λ z. Appends z (get_or (map g (set now place x)) place None) []) was (subst (λ z. Appends (f (get_or now place d)) z []) (sym at_place) ended) in
    record {
      same = length-set now place x ∙ so_far.same;
      done = λ i h. elim (cases_eq i place) [
        | inl e ↦ subst (λ k. Appends (get_or (map f old) k None) (get_or (map g (set now place x)) k None) []) (sym e) here
        | inr other ↦ subst (λ z. Appends (get_or (map f old) i None) z [])
            (sym (ap (λ l. get_or l i None) (map-set g now place x) ∙ get_or-set_other (map g now) place i (g x) None other)) (so_far.done i (omega (arith, h, other)))
      ];
      rest = λ i h. ap (λ l. get_or l i None) (map-set f now place x) ∙ get_or-set_other (map f now) place i (f x) None (λ e. omega (arith, e, h)) ∙ so_far.rest i (omega arith);
    }

-- what has been put of a text and is written is its text
pub ended_at : {X : Type 0} (state : X → Known) (g : X → Option (List ℕ)) (text : ℕ → List ℕ) (old mid new : List X) → Grow text (map state old) (map state mid) → (i : ℕ) → i < length old → length mid ≡ length old
    → Appends (get_or (map (λ x. (state x).text) mid) i None) (get_or (map g new) i None) [] → Appends (get_or (map (λ x. (state x).text) old) i None) (get_or (map g new) i None) (text i)
ended_at {X} state g text old mid new grown i h same ended =
    let is : (xs : List X) → i < length xs → (get_or (map state xs) i unknown).text ≡ get_or (map (λ x. (state x).text) xs) i None =
    λ xs l. sym (get_or-map (λ (s : Known). s.text) (map state xs) i unknown None (omega (arith, l, length-map xs state))) ∙ ap (λ l. get_or l i None) (map-map (λ (s : Known). s.text) state xs) in
    let put = grown.each i (omega (arith, h, length-map old state)) in
    subst (λ a. Appends a (get_or (map g new) i None) (text i)) (is old h)
    (subst (Appends (get_or (map state old) i unknown).text (get_or (map g new) i None)) (append-nil (text i))
    (Appends-trans (get_or (map state old) i unknown).text (get_or (map state mid) i unknown).text (get_or (map g new) i None) (text i) [] put
    (subst (λ a. Appends a (get_or (map g new) i None) []) (sym (is mid (omega (arith, h, same)))) ended)))
