-- The theorem on rows, put together from its parts.
use Rattle.std.proofs.Common.{Bool, length, sym, subst}
use Rattle.items.specs.Sameness.{Equivalence}
use Rattle.rows.specs.Row.{hit, hits_of, row_after}
use Rattle.rows.specs.Promises.{RowPromises, TrueHit, TrueWatch}
use Rattle.rows.proofs.Invariant.{hit_keeps}
use Rattle.rows.proofs.Booking.{true_hit}
use Rattle.rows.proofs.Rows.{row_after_one_more, invariant_after, sound_row, true_bracket}
use Rattle.rows.proofs.Figures.{least_threshold, true_share}
use Rattle.rows.proofs.Frequent.{true_frequent_list}
use Rattle.rows.proofs.Top.{true_top_list}
use Rattle.rows.proofs.Fronts.{changed_by_hit}
use Rattle.rows.proofs.Watched.{true_watch}

pub row_promises : {Item : Type 0} (same : Item → Item → Bool) → Equivalence same → RowPromises same
row_promises same laws m pos hits =
    let row = row_after same m hits in
    let kept = invariant_after same laws m pos hits in
    record {
      sound = sound_row kept;
      every_hit = λ x.
          subst (TrueHit same m x row) (sym (row_after_one_more same m hits x))
          (true_hit same laws m x row kept.sorted kept.apart);
      brackets = true_bracket kept;
      thresholds = λ p q. least_threshold p q (length hits);
      frequent_lists = true_frequent_list kept;
      top_lists = true_top_list kept;
      watched_hits = λ k x.
          subst (TrueWatch same k x row) (sym (row_after_one_more same m hits x))
          (true_watch same laws k x row (hit same m row x) (hit_keeps same laws m pos (hits_of same hits) (length hits) x row kept).apart (changed_by_hit same k laws m pos x row kept.sorted));
      shares = λ figure. true_share figure (length hits);
    }
