-- The frequent list and the top list keep the promise: what they answer and write is true of the hits that the summary
-- is sound for.
use Rattle.std.proofs.Common.{◌≡◌, ℕ, ◌<◌, ◌≤◌, Bool, false, List, length, take, is_ok, IfOk, IfErr, Some, None, Ok, Err, Option, Result, sym, refl, ap, ◌∙◌, subst, subst₂, arith}
use lib.ListN.{length-map}
use Rattle.items.specs.Sameness.{Equivalence}
use Rattle.rows.specs.declared.entry.Entry.{Entry}
use Rattle.rows.specs.Row.{row_after}
use Rattle.rows.specs.Questions.{threshold, frequent, sure, top}
use Rattle.rows.specs.Promises.{Exactly, KeptPromises}
use Rattle.rows.proofs.Theorem.{row_promises}
use Rattle.calls.specs.declared.refusal.Refusal.{Refusal}
use Rattle.calls.specs.declared.answers.Line.{Line}
use Rattle.calls.specs.declared.answers.FrequentList.{FrequentList}
use Rattle.calls.specs.declared.answers.TopList.{TopList}
use Rattle.calls.specs.declared.refusal.Refusal.TheVariants.{Rank, Support, Lines, Foreign}
use Rattle.calls.specs.Refusals.{rank, support, length_refusal}
use Rattle.calls.specs.Reading.{Reading, row_of}
use Rattle.calls.specs.Lists.{written, frequent_lines, frequent_answer, top_lines, top_answer}
use Rattle.calls.specs.Calls.{ListEnds, FrequentEnds, TopEnds, FrequentAnswered, TopAnswered}
use Rattle.calls.specs.Conditions.{Supported, Ranked}
use Rattle.calls.specs.Truth.{WrittenFirst, TrueFrequentLines, TrueTopLines, FrequentTruth, TopTruth}
use Rattle.calls.specs.History.{frequent_call, top_call, ListKeeps}
use Rattle.calls.proofs.Refusing.{answers_refusal, accepted_exactly, never_foreign, kept_if_refused, made_if_accepted, rank_means, rank_passes, rank_refuses, support_means, support_passes, support_refuses, fits_means, fits_given, fits_refuses, rank_is_another, support_is_another, fits_is_another}
use Rattle.calls.proofs.Truths.{marked, front_written, written_first, true_frequent_lines, true_top_lines}

-- A call that answers a and writes a list, of so many lines.
module _ {T Answer : Type 0} (refusal : Option Refusal) (a : Answer) (list lines : List (Line T)) (r : Result Answer Refusal) (lines' : List (Line T)) (ends : ListEnds refusal a list lines r lines') where
  list_refused : (why : Refusal) → refusal ≡ Some why → r ≡ Err why
  list_refused why e = (answers_refusal r (lines' ≡ lines) ((r ≡ Ok a) × (lines' ≡ written list lines)) refusal why e ends).0

  list_unwritten : IfErr r (λ _. lines' ≡ lines)
  list_unwritten = kept_if_refused r (lines' ≡ lines) ((r ≡ Ok a) × (lines' ≡ written list lines)) a (λ d. d.0) refusal ends

  list_accepted : (Fact : Type 0) → (refusal ≡ None → Fact) → (Fact → refusal ≡ None) → Exactly (is_ok r) Fact
  list_accepted Fact means given = accepted_exactly r (lines' ≡ lines) ((r ≡ Ok a) × (lines' ≡ written list lines)) a (λ d. d.0) Fact refusal means given ends

  list_never_foreign : (refusal ≡ Some Foreign → ⊥) → r ≡ Err Foreign → ⊥
  list_never_foreign other = never_foreign r (lines' ≡ lines) ((r ≡ Ok a) × (lines' ≡ written list lines)) a (λ d. d.0) refusal other ends

  module _ (number : Answer → ℕ) (is_number : number a ≡ length list) where
    list_place : (refusal ≡ None → length list ≤ length lines) → IfOk r (λ b. WrittenFirst (number b) lines lines')
    list_place fits =
        made_if_accepted r (lines' ≡ lines) (lines' ≡ written list lines) a (λ b. WrittenFirst (number b) lines lines') refusal
        (λ e d. subst₂ (λ n ls. WrittenFirst n lines ls) (sym is_number) (sym d) (written_first list lines (fits e))) ends

    list_true : (P : Answer → List (Line T) → Type 0) → (refusal ≡ None → P a list) → IfOk r (λ b. P b (take (number b) lines'))
    list_true P holds =
        made_if_accepted r (lines' ≡ lines) (lines' ≡ written list lines) a (λ b. P b (take (number b) lines')) refusal
        (λ e d. subst (P a) (sym (ap (λ n. take n lines') is_number ∙ ap (take (length list)) d ∙ front_written list lines)) (holds e)) ends

module _ {T : Type 0} (same : T → T → Bool) (m : ℕ) (hits : List T) (rows : KeptPromises same m hits) where
  frequent_truth : (p q : ℕ) (lines : List (Line T)) (r : Result FrequentList Refusal) (lines' : List (Line T)) →
      FrequentEnds m (length hits) (row_after same m hits) p q lines r lines' → FrequentTruth same m hits p q lines r lines'
  frequent_truth p q lines r lines' ends =
      let t : ℕ = threshold p q (length hits) in
      let row : List (Entry T) = row_after same m hits in
      let list : List (Line T) = frequent_lines t row in
      let a : FrequentList = frequent_answer t m row in
      let fit : Option Refusal = length_refusal (length list) (length lines) in
      let number : length list ≡ length (frequent t row) = length-map (frequent t row) (marked (sure t)) in
      let fits : support p q fit ≡ None → length list ≤ length lines = λ e. fits_means (length list) (length lines) (support_means p q fit e).1 in
      record {
        defined = ends;
        accepted = list_accepted (support p q fit) a list lines r lines' ends
            (Supported p q × (length (frequent t row) ≤ length lines))
            (λ e. ((support_means p q fit e).0, subst (λ n. n ≤ length lines) number (fits e)))
            (λ h. support_passes p q fit h.0 ∙ fits_given (length list) (length lines) (subst (λ n. n ≤ length lines) (sym number) h.1));
        off_support = λ not. list_refused (support p q fit) a list lines r lines' ends Support (support_refuses p q fit not);
        too_long = λ h more. list_refused (support p q fit) a list lines r lines' ends Lines (support_passes p q fit h ∙ fits_refuses (length list) (length lines) (subst (λ n. length lines < n) (sym number) more));
        unwritten = list_unwritten (support p q fit) a list lines r lines' ends;
        never_foreign = list_never_foreign (support p q fit) a list lines r lines' ends (support_is_another p q fit (fits_is_another (length list) (length lines)));
        place = list_place (support p q fit) a list lines r lines' ends (λ b. b.lines) refl fits;
        list = list_true (support p q fit) a list lines r lines' ends (λ b. b.lines) refl (TrueFrequentLines same m hits p q)
            (λ e. let s = (support_means p q fit e).0 in true_frequent_lines same m hits rows p q (omega (arith, s.some, s.at_most_all)));
      }

  top_truth : (k : ℕ) (lines : List (Line T)) (r : Result TopList Refusal) (lines' : List (Line T)) →
      TopEnds m (row_after same m hits) k lines r lines' → TopTruth same m hits k lines r lines'
  top_truth k lines r lines' ends =
      let row : List (Entry T) = row_after same m hits in
      let list : List (Line T) = top_lines k m row in
      let a : TopList = top_answer k m row in
      let fit : Option Refusal = length_refusal (length list) (length lines) in
      let number : length list ≡ length (top k m row) = length-map (top k m row) (marked (λ e. false)) in
      let fits : rank m k fit ≡ None → length list ≤ length lines = λ e. fits_means (length list) (length lines) (rank_means m k fit e).1 in
      record {
        defined = ends;
        accepted = list_accepted (rank m k fit) a list lines r lines' ends
            (Ranked m k × (length (top k m row) ≤ length lines))
            (λ e. ((rank_means m k fit e).0, subst (λ n. n ≤ length lines) number (fits e)))
            (λ h. rank_passes m k fit h.0 ∙ fits_given (length list) (length lines) (subst (λ n. n ≤ length lines) (sym number) h.1));
        off_rank = λ not. list_refused (rank m k fit) a list lines r lines' ends Rank (rank_refuses m k fit not);
        too_long = λ h more. list_refused (rank m k fit) a list lines r lines' ends Lines (rank_passes m k fit h ∙ fits_refuses (length list) (length lines) (subst (λ n. length lines < n) (sym number) more));
        unwritten = list_unwritten (rank m k fit) a list lines r lines' ends;
        never_foreign = list_never_foreign (rank m k fit) a list lines r lines' ends (rank_is_another m k fit (fits_is_another (length list) (length lines)));
        place = list_place (rank m k fit) a list lines r lines' ends (λ b. b.lines) refl fits;
        list = list_true (rank m k fit) a list lines r lines' ends (λ b. b.lines) refl (TrueTopLines same m hits k) (λ e. true_top_lines same m hits rows k);
      }

module _ {S T : Type 0} (same : T → T → Bool) (laws : Equivalence same) (reading : Reading S T) (Structured : S → Type 0) (s : S) where
  pub keeps_frequent : (p q : ℕ) (lines : List (Line T)) (r : Result FrequentList Refusal) (lines' : List (Line T)) →
      FrequentAnswered reading s p q lines r lines' → ListKeeps same reading Structured s (frequent_call p q lines r lines')
  keeps_frequent p q lines r lines' answered m hits sound =
      frequent_truth same m hits (row_promises same laws m sound.sized.some hits) p q lines r lines'
      (subst (λ row. FrequentEnds m (length hits) row p q lines r lines') sound.row
      (subst₂ (λ u n. FrequentEnds u n (row_of reading s) p q lines r lines') sound.size sound.total answered))

  pub keeps_top : (k : ℕ) (lines : List (Line T)) (r : Result TopList Refusal) (lines' : List (Line T)) →
      TopAnswered reading s k lines r lines' → ListKeeps same reading Structured s (top_call k lines r lines')
  keeps_top k lines r lines' answered m hits sound =
      top_truth same m hits (row_promises same laws m sound.sized.some hits) k lines r lines'
      (subst₂ (λ u row. TopEnds u row k lines r lines') sound.size sound.row answered)
