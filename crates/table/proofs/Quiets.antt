-- Edits that the row does not show: those of links, of ends and of a counter's bucket.
use Rattle.std.proofs.Common.{◌≡◌, ℕ, ◌<◌, List, [], length, Some, None, Option, refl, ◌∙◌}
use Rattle.links.specs.Tables.{edit_at}
use Rattle.links.specs.Kinds.{Accessors}
use Rattle.links.specs.Lists.{next_in, prev_in, unlinking, linking, ends_out, ends_in}
use Rattle.links.proofs.Tables.{read_kept_at, read_same, read_other, read_kept, length_edit_at}
use Rattle.table.specs.declared.place.Place.{Place}
use Rattle.table.specs.Fields.{counter_links, bucket_links, value_of, members_in, placed_of, with_members, with_owner, emptied}
use Rattle.table.specs.Moves.{Quiet, Revalued, Entries, pulled_from, attached_in, added_in}

module _ {T : Type 0} where
  -- The edit leaves the entry of the counter, and the count of the bucket.
  abbrev pub Leaves : (Place T → Place T) → Type 0
  Leaves e = ((c v : ℕ) (x : Place T) → placed_of c v (e x) ≡ placed_of c v x) × ((x : Place T) → value_of (e x) ≡ value_of x)

  pub quiet_none : (t : List (Place T)) → Quiet t t
  quiet_none t = record { size = refl; entries = λ v c. refl; values = λ b. refl }

  pub quiet_then : (t t₁ t₂ : List (Place T)) → Quiet t t₁ → Quiet t₁ t₂ → Quiet t t₂
  quiet_then t t₁ t₂ p q =
      record { size = q.size ∙ p.size; entries = λ v c. q.entries v c ∙ p.entries v c; values = λ b. q.values b ∙ p.values b }

  pub quiet_edit : (s : List (Place T)) (l : Option ℕ) (e : Place T → Place T) → Leaves e → Quiet s (edit_at l e s)
  quiet_edit s l e k =
      record {
        size = length_edit_at e l s;
        entries = λ v c. read_kept_at (placed_of c v) [] e (k.0 c v) l s c;
        values = λ b. read_kept_at value_of 0 e k.1 l s b;
      }

  -- A kind of list whose links the row does not show, and the two changes of a list of it.
  module _ (k : Accessors (Place T)) (kn : (v : Option ℕ) → Leaves (k.put_next v)) (kp : (v : Option ℕ) → Leaves (k.put_prev v)) where
    quiet_unlinking : (y : ℕ) (t : List (Place T)) → Quiet t (unlinking k y t)
    quiet_unlinking y t =
        let n = next_in k t y in
        let p = prev_in k t y in
        let t₁ = edit_at p (k.put_next n) t in
        quiet_then t t₁ (edit_at n (k.put_prev p) t₁) (quiet_edit t p (k.put_next n) (kn n)) (quiet_edit t₁ n (k.put_prev p) (kp p))

    quiet_linking : (a z : Option ℕ) (y : ℕ) (t : List (Place T)) → Quiet t (linking k a z y t)
    quiet_linking a z y t =
        let t₁ = edit_at a (k.put_next (Some y)) t in
        let t₂ = edit_at z (k.put_prev (Some y)) t₁ in
        let t₃ = edit_at (Some y) (k.put_next z) t₂ in
        let t₄ = edit_at (Some y) (k.put_prev a) t₃ in
        quiet_then t t₁ t₄ (quiet_edit t a (k.put_next (Some y)) (kn (Some y)))
        (quiet_then t₁ t₂ t₄ (quiet_edit t₁ z (k.put_prev (Some y)) (kp (Some y)))
        (quiet_then t₂ t₃ t₄ (quiet_edit t₂ (Some y) (k.put_next z) (kn z)) (quiet_edit t₃ (Some y) (k.put_prev a) (kp a))))

  pub quiet_unlink_bucket : (b : ℕ) (t : List (Place T)) → Quiet t (unlinking bucket_links b t)
  quiet_unlink_bucket b t = quiet_unlinking bucket_links (λ w. ((λ c v x. refl), (λ x. refl))) (λ w. ((λ c v x. refl), (λ x. refl))) b t

  pub quiet_link_bucket : (a z : Option ℕ) (b : ℕ) (t : List (Place T)) → Quiet t (linking bucket_links a z b t)
  quiet_link_bucket a z b t = quiet_linking bucket_links (λ w. ((λ c v x. refl), (λ x. refl))) (λ w. ((λ c v x. refl), (λ x. refl))) a z b t

  pub quiet_pulled : (b c : ℕ) (t : List (Place T)) → Quiet t (pulled_from b c t)
  quiet_pulled b c t =
      let t₁ = unlinking counter_links c t in
      quiet_then t t₁ (pulled_from b c t)
      (quiet_unlinking counter_links (λ w. ((λ c v x. refl), (λ x. refl))) (λ w. ((λ c v x. refl), (λ x. refl))) c t)
      (quiet_edit t₁ (Some b) (with_members (ends_out counter_links t c (members_in t b))) ((λ c v x. refl), (λ x. refl)))

  pub quiet_attached : (b c : ℕ) (t : List (Place T)) → Quiet t (attached_in b c t)
  quiet_attached b c t =
      let ends = members_in t b in
      let t₁ = linking counter_links ends.last None c t in
      let t₂ = edit_at (Some c) (with_owner b) t₁ in
      quiet_then t t₁ (attached_in b c t)
      (quiet_linking counter_links (λ w. ((λ c v x. refl), (λ x. refl))) (λ w. ((λ c v x. refl), (λ x. refl))) ends.last None c t)
      (quiet_then t₁ t₂ (attached_in b c t) (quiet_edit t₁ (Some c) (with_owner b) ((λ c v x. refl), (λ x. refl)))
      (quiet_edit t₂ (Some b) (with_members (ends_in ends.last None c ends)) ((λ c v x. refl), (λ x. refl))))

  -- A bucket put in shows by its count alone.
  pub added_entries : (a z : Option ℕ) (b v : ℕ) (t : List (Place T)) → Entries t (added_in a z b v t)
  added_entries a z b v t u c =
      read_kept (placed_of c u) [] (emptied v) (λ x. refl) (linking bucket_links a z b t) b c ∙ (quiet_link_bucket a z b t).entries u c

  pub added_values : (a z : Option ℕ) (b v : ℕ) (t : List (Place T)) → b < length t → Revalued t (added_in a z b v t) b v
  added_values a z b v t w =
      let s = linking bucket_links a z b t in
      let q = quiet_link_bucket a z b t in
      record {
        here = read_same value_of 0 (emptied v) v (λ x. refl) s b (rw q.size w);
        other = λ i n. read_other value_of 0 (emptied v) s b i n ∙ q.values i;
      }
