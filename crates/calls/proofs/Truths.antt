-- What is read off the row machine's row, written as lines, is true of its hits.
use Rattle.std.proofs.Common.{◌≡◌, ℕ, ◌<◌, ◌≤◌, min, Bool, true, false, ◌||◌, List, [], ◌∷◌, map, length, take, drop, sym, refl, ap, ◌∙◌, subst, arith, length-append, length-drop}
use lib.ListN.{length-map}
use lib.Seq.{take-append_seam, drop-append_seam}
use Rattle.std.specs.List.{AllByRecursion as Each}
use Rattle.std.proofs.lemmas.List.{take-map, length-reverse}
use Rattle.std.proofs.ByRecursion.{All-map}
use Rattle.rows.proofs.Sameness.{some_first}
use Rattle.rows.proofs.Lists.{pairwise_map}
use Rattle.links.proofs.Alls.{all_every}
use Rattle.rows.specs.declared.entry.Entry.{Entry}
use Rattle.rows.specs.Row.{row_after, hits_of, entry_of}
use Rattle.rows.specs.Questions.{by_position, threshold, frequent, sure, top, listed}
use Rattle.rows.specs.Promises.{Pairwise, SmallestFrom, ClearOfRest, KeptPromises}
use Rattle.calls.specs.declared.answers.Line.{Line}
use Rattle.calls.specs.Lists.{line, written, frequent_lines, frequent_answer, top_lines, top_answer}
use Rattle.calls.specs.Truth.{entries_of, WrittenFirst, in_lines, TrueFrequentLines, TrueTopLines}

-- ---- entries as lines, whatever their marks

module _ {T : Type 0} (mark : Entry T → Bool) where
  abbrev pub marked : Entry T → Line T
  marked e = line (mark e) e

  entries_marked : (es : List (Entry T)) → entries_of (map marked es) ≡ es
  entries_marked [] = refl
  entries_marked (e ∷ es) = ap (λ r. e ∷ r) (entries_marked es)

  in_marked : (same : T → T → Bool) (x : T) (es : List (Entry T)) → in_lines same x (map marked es) ≡ listed same x es
  in_marked same x [] = refl
  in_marked same x (e ∷ es) = ap (λ b. same e.item x || b) (in_marked same x es) ∙ sym (some_first (same e.item x) e (entry_of same x es))

-- ---- the lines that are written

module _ {T : Type 0} (list lines : List (Line T)) where
  pub front_written : take (length list) (written list lines) ≡ list
  front_written = take-append_seam list (drop (length list) lines)

  pub written_first : length list ≤ length lines → WrittenFirst (length list) lines (written list lines)
  written_first fits = record {
    room = fits;
    length_kept = omega (arith, length-append list (drop (length list) lines), length-drop (length list) lines);
    behind = drop-append_seam list (drop (length list) lines);
  }

-- ---- the lists

module _ {T : Type 0} (same : T → T → Bool) (m : ℕ) (hits : List T) (rows : KeptPromises same m hits) where
  pub true_frequent_lines : (p q : ℕ) → 1 ≤ q →
      TrueFrequentLines same m hits p q (frequent_answer (threshold p q (length hits)) m (row_after same m hits)) (frequent_lines (threshold p q (length hits)) (row_after same m hits))
  true_frequent_lines p q some =
      let t : ℕ = threshold p q (length hits) in
      let row : List (Entry T) = row_after same m hits in
      let es : List (Entry T) = frequent t row in
      let k = rows.frequent_lists t in
      let number : length es ≡ length (frequent_lines t row) = sym (length-map es (marked (sure t))) in
      record {
        number = refl;
        share = rows.thresholds p q some;
        first_positions = entries_marked (sure t) es ∙ k.first_positions ∙ ap (λ n. take n (by_position row)) number;
        reaching = All-map (λ l. t ≤ l.count) (marked (sure t)) es k.reaching;
        no_more = subst (λ n. Each (λ e. e.count < t) (drop n (by_position row))) number k.no_more;
        sure_exactly = All-map _ (marked (sure t)) es (all_every _ k.sure_exactly es);
        sure_lines = All-map (λ l. l.sure ≡ true → t ≤ hits_of same hits l.item) (marked (sure t)) es k.sure_lines;
        complete_exactly = k.complete_exactly;
        omits_none = λ c x h. in_marked (sure t) same x es ∙ k.omits_none c x h;
        complete_when = k.complete_when;
      }

  pub true_top_lines : (k : ℕ) → TrueTopLines same m hits k (top_answer k m (row_after same m hits)) (top_lines k m (row_after same m hits))
  true_top_lines k =
      let row : List (Entry T) = row_after same m hits in
      let es : List (Entry T) = top k m row in
      let unmarked : Entry T → Bool = λ e. false in
      let l = rows.top_lists k in
      let number : length es ≡ length (top_lines k m row) = sym (length-map es (marked unmarked)) in
      record {
        number = refl;
        first_positions = entries_marked unmarked es ∙ l.first_positions ∙ ap (λ n. take n (by_position row)) number;
        never_sure = All-map (λ n. n.sure ≡ false) (marked unmarked) es (all_every _ (λ e. refl) es);
        guaranteed_means = λ g. subst (SmallestFrom (min k (length row)) (length row) (ClearOfRest m row)) number (l.guaranteed_means g);
        guaranteed_given = l.guaranteed_given;
        otherwise_all = λ g. sym number ∙ ap length (l.otherwise_all g) ∙ length-reverse row;
        best = λ g x y in' out. l.best g x y (sym (in_marked unmarked same x es) ∙ in') (sym (in_marked unmarked same y es) ∙ out);
        ordered_exactly = l.ordered_exactly;
        never_rising = λ o.
            subst (Pairwise (λ a b. hits_of same hits b.item ≤ hits_of same hits a.item)) (sym (take-map (marked unmarked) k es))
            (pairwise_map (λ a b. hits_of same hits b.item ≤ hits_of same hits a.item) (marked unmarked) (take k es) (l.never_rising o));
      }
