-- Lists in a table: one place out, one in, and what leaves a list as it is.
use Rattle.std.proofs.Common.{◌≡◌, ℕ, ◌<◌, List, [], ◌∷◌, ◌++◌, length, Some, None, Option, refl, ap, ◌∙◌}
use Rattle.std.proofs.lemmas.Option.{same_Some}
use Rattle.links.specs.declared.ends.Ends.{Ends}
use Rattle.links.specs.Tables.{read, edit_at}
use Rattle.links.specs.Chains.{first_or, last_or, Off, Cross, Within}
use Rattle.links.specs.Kinds.{Accessors, Lawful}
use Rattle.links.specs.Lists.{Chained, Listed, Unlinked, Linked, next_in, prev_in, unlinking, linking, end_out_lem, ends_out, ends_in}
use Rattle.links.proofs.Alls.{all_out, all_in}
use Rattle.links.proofs.Places.{apart_out, apart_in, cross_left, cross_right, cross_sym}
use Rattle.links.proofs.Tables.{read_same, read_other, read_kept, read_kept_at, length_edit_at}
use Rattle.links.proofs.Chains.{Clear, Wrote, Same, clear_none, clear_first, clear_last, clear_off, wrote_same, same_wrote, same_then, same_all, chain_right, chain_frame, chain_unlink, chain_link, last_or_append}

-- ---- a field of the places of a list after an edit

module _ {A M : Type 0} (f : A → M) (d : M) (e : A → A) (t : List A) where
  -- At a place that the link l does not lead to, and so at every place that l is clear of.
  pub read_clear : (l : Option ℕ) (j : ℕ) → (Some j ≡ l → ⊥) → read f d (edit_at l e t) j ≡ read f d t j
  read_clear None j n = refl
  read_clear (Some i) j n = read_other f d e t i j (λ p. n (ap Some p))

  pub same_clear : (l : Option ℕ) (xs : List ℕ) → Clear l xs → Same (read f d t) (read f d (edit_at l e t)) xs
  same_clear l [] c = tt
  same_clear l (x ∷ xs) c = (read_clear l x c.0, same_clear l xs c.1)

  -- Where e leaves the field.
  pub same_kept : ((x : A) → f (e x) ≡ f x) → (l : Option ℕ) (xs : List ℕ) → Same (read f d t) (read f d (edit_at l e t)) xs
  same_kept q l xs = same_all (read f d t) (read f d (edit_at l e t)) (read_kept_at f d e q l t) xs

  -- Where e writes v into it.
  wrote_edit : (v : M) → ((x : A) → f (e x) ≡ v) → (l : Option ℕ) (xs : List ℕ) → Within (length t) xs → Wrote (read f d t) (read f d (edit_at l e t)) l v xs
  wrote_edit v q l [] w = tt
  wrote_edit v q None (x ∷ xs) w = ((λ n. refl), (λ p. absurd cc), wrote_edit v q None xs w.1)
  wrote_edit v q (Some i) (x ∷ xs) w = (
    (λ n. read_other f d e t i x (λ p. n (ap Some p))),
    (λ p. let g : i < length t = rw (← same_Some x i p) w.0 in rw (same_Some x i p) (read_same f d e v q t i g)),
    wrote_edit v q (Some i) xs w.1,
  )

-- ---- lists that an edit leaves

module _ {A : Type 0} (k : Accessors A) (t : List A) (xs : List ℕ) (l : Option ℕ) (e : A → A) where
  chained_frame : Same (next_in k t) (next_in k (edit_at l e t)) xs → Same (prev_in k t) (prev_in k (edit_at l e t)) xs → Chained k t xs → Chained k (edit_at l e t) xs
  chained_frame sn sp h =
      let q : length (edit_at l e t) ≡ length t = length_edit_at e l t in
      record {
        chain = chain_frame (next_in k t) (prev_in k t) (next_in k (edit_at l e t)) (prev_in k (edit_at l e t)) None xs None sn sp h.chain;
        apart = h.apart;
        within = rw q h.within;
      }

  -- The edit leaves the links of this kind.
  pub chained_kept : ((x : A) → k.next (e x) ≡ k.next x) → ((x : A) → k.prev (e x) ≡ k.prev x) → Chained k t xs → Chained k (edit_at l e t) xs
  chained_kept en ep h = chained_frame (same_kept k.next None e t en l xs) (same_kept k.prev None e t ep l xs) h

  -- The edit is at a place that is none of the list.
  pub chained_clear : Clear l xs → Chained k t xs → Chained k (edit_at l e t) xs
  chained_clear c h = chained_frame (same_clear k.next None e t l xs c) (same_clear k.prev None e t l xs c) h

-- ---- the neighbours of a place

module _ {A : Type 0} (k : Accessors A) (t : List A) (xs : List ℕ) (y : ℕ) (zs : List ℕ) (h : Chained k t (xs ++ y ∷ zs)) where
  pub prev_is : prev_in k t y ≡ last_or None xs
  prev_is = (chain_right (next_in k t) (prev_in k t) None xs (y ∷ zs) None h.chain).0

  pub next_is : next_in k t y ≡ first_or zs None
  next_is = (chain_right (next_in k t) (prev_in k t) None xs (y ∷ zs) None h.chain).1

  -- The links of a place lead to none of another list.
  pub prev_clear : (ws : List ℕ) → Cross (xs ++ y ∷ zs) ws → Clear (prev_in k t y) ws
  prev_clear ws c = rw prev_is (clear_last None xs ws (clear_none ws) (cross_left xs (y ∷ zs) ws c))

  pub next_clear : (ws : List ℕ) → Cross (xs ++ y ∷ zs) ws → Clear (next_in k t y) ws
  next_clear ws c = rw next_is (clear_first None ws zs (clear_none ws) (cross_sym zs ws (cross_right xs (y ∷ zs) ws c).1))

-- ---- the ends

-- A list that has a place has a last.
end_kept : (x : ℕ) (xs : List ℕ) (far end : Option ℕ) → end_out_lem (last_or (Some x) xs) far end ≡ end
end_kept x [] far end = refl
end_kept x (y ∷ ys) far end = end_kept y ys far end

first_out : (xs : List ℕ) (y : ℕ) (zs : List ℕ) → end_out_lem (last_or None xs) (first_or zs None) (first_or (xs ++ y ∷ zs) None) ≡ first_or (xs ++ zs) None
first_out [] y zs = refl
first_out (x ∷ xs) y zs = end_kept x xs (first_or zs None) (Some x)

last_out : (xs : List ℕ) (y : ℕ) (zs : List ℕ) → end_out_lem (first_or zs None) (last_or None xs) (last_or None (xs ++ y ∷ zs)) ≡ last_or None (xs ++ zs)
last_out xs y [] = rw (last_or_append None xs []) refl
last_out xs y (z ∷ zs) = rw (last_or_append None xs (y ∷ z ∷ zs), last_or_append None xs (z ∷ zs)) refl

first_in : (xs : List ℕ) (y : ℕ) (zs : List ℕ) → end_out_lem (last_or None xs) (Some y) (first_or (xs ++ zs) None) ≡ first_or (xs ++ y ∷ zs) None
first_in [] y zs = refl
first_in (x ∷ xs) y zs = end_kept x xs (Some y) (Some x)

last_in : (xs : List ℕ) (y : ℕ) (zs : List ℕ) → end_out_lem (first_or zs None) (Some y) (last_or None (xs ++ zs)) ≡ last_or None (xs ++ y ∷ zs)
last_in xs y [] = rw (last_or_append None xs (y ∷ [])) refl
last_in xs y (z ∷ zs) = rw (last_or_append None xs (z ∷ zs), last_or_append None xs (y ∷ z ∷ zs)) refl

-- ---- one place out, one in

module _ {A : Type 0} (k : Accessors A) (laws : Lawful k) where
  pub length_unlinking : (y : ℕ) (t : List A) → length (unlinking k y t) ≡ length t
  length_unlinking y t =
      let n = next_in k t y in
      let p = prev_in k t y in
      length_edit_at (k.put_prev p) n (edit_at p (k.put_next n) t) ∙ length_edit_at (k.put_next n) p t

  pub length_linking : (a z : Option ℕ) (y : ℕ) (t : List A) → length (linking k a z y t) ≡ length t
  length_linking a z y t =
      let t₁ = edit_at a (k.put_next (Some y)) t in
      let t₂ = edit_at z (k.put_prev (Some y)) t₁ in
      let t₃ = edit_at (Some y) (k.put_next z) t₂ in
      length_edit_at (k.put_prev a) (Some y) t₃ ∙ length_edit_at (k.put_next z) (Some y) t₂ ∙ length_edit_at (k.put_prev (Some y)) z t₁
      ∙ length_edit_at (k.put_next (Some y)) a t

  chained_out : (t : List A) (xs : List ℕ) (y : ℕ) (zs : List ℕ) → Chained k t (xs ++ y ∷ zs) → Chained k (unlinking k y t) (xs ++ zs)
  chained_out t xs y zs h =
      let n = next_in k t y in
      let p = prev_in k t y in
      let ws = xs ++ zs in
      let t₁ = edit_at p (k.put_next n) t in
      let t₂ = edit_at n (k.put_prev p) t₁ in
      let w : Within (length t) ws = all_out (λ x. x < length t) xs y zs h.within in
      let e₁ : length t₁ ≡ length t = length_edit_at (k.put_next n) p t in
      let e₂ : length t₂ ≡ length t = length_unlinking y t in
      let wn : Wrote (next_in k t) (next_in k t₂) p n ws =
      wrote_same (next_in k t) (next_in k t₁) (next_in k t₂) p n ws (wrote_edit k.next None (k.put_next n) t n (laws.next_next n) p ws w) (same_kept k.next None (k.put_prev p) t₁ (laws.next_prev p) n ws) in
      let wp : Wrote (prev_in k t) (prev_in k t₂) n p ws =
      same_wrote (prev_in k t) (prev_in k t₁) (prev_in k t₂) n p ws (same_kept k.prev None (k.put_next n) t (laws.prev_next n) p ws) (wrote_edit k.prev None (k.put_prev p) t₁ p (laws.prev_prev p) n ws (rw e₁ w)) in
      record {
        chain = chain_unlink (next_in k t) (prev_in k t) (next_in k t₂) (prev_in k t₂) xs zs y h.apart h.chain wn wp;
        apart = apart_out xs y zs h.apart;
        within = rw e₂ w;
      }

  chained_in : (t : List A) (xs : List ℕ) (y : ℕ) (zs : List ℕ) → Chained k t (xs ++ zs) → Off y (xs ++ zs) → y < length t → Chained k (linking k (last_or None xs) (first_or zs None) y t) (xs ++ y ∷ zs)
  chained_in t xs y zs h off l =
      let a = last_or None xs in
      let b = first_or zs None in
      let ws = xs ++ zs in
      let cy = clear_off y ws off in
      let t₁ = edit_at a (k.put_next (Some y)) t in
      let t₂ = edit_at b (k.put_prev (Some y)) t₁ in
      let t₃ = edit_at (Some y) (k.put_next b) t₂ in
      let t₄ = edit_at (Some y) (k.put_prev a) t₃ in
      let e₁ : length t₁ ≡ length t = length_edit_at (k.put_next (Some y)) a t in
      let e₂ : length t₂ ≡ length t = length_edit_at (k.put_prev (Some y)) b t₁ ∙ e₁ in
      let e₃ : length t₃ ≡ length t = length_edit_at (k.put_next b) (Some y) t₂ ∙ e₂ in
      let e₄ : length t₄ ≡ length t = length_linking a b y t in
      let after : (f : A → Option ℕ) → Same (read f None t₂) (read f None t₄) ws =
      λ f. same_then (read f None t₂) (read f None t₃) (read f None t₄) ws (same_clear f None (k.put_next b) t₂ (Some y) ws cy) (same_clear f None (k.put_prev a) t₃ (Some y) ws cy) in
      let wn : Wrote (next_in k t) (next_in k t₄) a (Some y) ws =
      wrote_same (next_in k t) (next_in k t₁) (next_in k t₄) a (Some y) ws (wrote_edit k.next None (k.put_next (Some y)) t (Some y) (laws.next_next (Some y)) a ws h.within)
      (same_then (next_in k t₁) (next_in k t₂) (next_in k t₄) ws (same_kept k.next None (k.put_prev (Some y)) t₁ (laws.next_prev (Some y)) b ws) (after k.next)) in
      let wp₂ : Wrote (prev_in k t) (prev_in k t₂) b (Some y) ws =
      same_wrote (prev_in k t) (prev_in k t₁) (prev_in k t₂) b (Some y) ws (same_kept k.prev None (k.put_next (Some y)) t (laws.prev_next (Some y)) a ws)
      (wrote_edit k.prev None (k.put_prev (Some y)) t₁ (Some y) (laws.prev_prev (Some y)) b ws (rw e₁ h.within)) in
      let wp : Wrote (prev_in k t) (prev_in k t₄) b (Some y) ws = wrote_same (prev_in k t) (prev_in k t₂) (prev_in k t₄) b (Some y) ws wp₂ (after k.prev) in
      let en : next_in k t₄ y ≡ b =
      read_kept k.next None (k.put_prev a) (laws.next_prev a) t₃ y y ∙ read_same k.next None (k.put_next b) b (laws.next_next b) t₂ y (rw e₂ l) in
      let ep : prev_in k t₄ y ≡ a = read_same k.prev None (k.put_prev a) a (laws.prev_prev a) t₃ y (rw e₃ l) in
      let w : Within (length t) (xs ++ y ∷ zs) = all_in (λ x. x < length t) xs y zs l h.within in
      record {
        chain = chain_link (next_in k t) (prev_in k t) (next_in k t₄) (prev_in k t₄) xs zs y h.apart h.chain wn wp en ep;
        apart = apart_in xs y zs off h.apart;
        within = rw e₄ w;
      }

  pub listed_out : (t : List A) (e : Ends) (xs : List ℕ) (y : ℕ) (zs : List ℕ) → Listed k t (xs ++ y ∷ zs) e → Listed k (unlinking k y t) (xs ++ zs) (ends_out k t y e)
  listed_out t e xs y zs h =
      let p = prev_is k t xs y zs h.list in
      let n = next_is k t xs y zs h.list in
      record {
        list = chained_out t xs y zs h.list;
        begins = rw (p, n, h.begins) (first_out xs y zs);
        stops = rw (p, n, h.stops) (last_out xs y zs);
      }

  pub listed_in : (t : List A) (e : Ends) (xs : List ℕ) (y : ℕ) (zs : List ℕ) → Listed k t (xs ++ zs) e → Off y (xs ++ zs) → y < length t → Listed k (linking k (last_or None xs) (first_or zs None) y t) (xs ++ y ∷ zs) (ends_in (last_or None xs) (first_or zs None) y e)
  listed_in t e xs y zs h o w =
      record {
        list = chained_in t xs y zs h.list o w;
        begins = rw h.begins (first_in xs y zs);
        stops = rw h.stops (last_in xs y zs);
      }

  -- What the two operations promise, from what they write.
  pub unlinked_by : (t t' : List A) (y : ℕ) (e e' : Ends) → t' ≡ unlinking k y t → e' ≡ ends_out k t y e → Unlinked k t t' y e e'
  unlinked_by t t' y e e' et ee = record { table = et; ends = ee; out = λ xs zs h. rw (et, ee) (listed_out t e xs y zs h) }

  pub linked_by : (t t' : List A) (a z : Option ℕ) (y : ℕ) (e e' : Ends) → t' ≡ linking k a z y t → e' ≡ ends_in a z y e → Linked k t t' a z y e e'
  linked_by t t' a z y e e' et ee =
      record { table = et; ends = ee; put = λ xs zs h ea ez o w. rw (et, ee, ea, ez) (listed_in t e xs y zs h o w) }

  -- Another list of the same kind stays.
  pub unlinking_other : (t : List A) (xs : List ℕ) (y : ℕ) (zs ws : List ℕ) → Chained k t (xs ++ y ∷ zs) → Cross (xs ++ y ∷ zs) ws → Chained k t ws → Chained k (unlinking k y t) ws
  unlinking_other t xs y zs ws h c g =
      let n = next_in k t y in
      let p = prev_in k t y in
      chained_clear k (edit_at p (k.put_next n) t) ws n (k.put_prev p) (next_clear k t xs y zs h ws c)
      (chained_clear k t ws p (k.put_next n) (prev_clear k t xs y zs h ws c) g)

  pub linking_other : (t : List A) (xs : List ℕ) (y : ℕ) (zs ws : List ℕ) → Cross (xs ++ y ∷ zs) ws → Chained k t ws → Chained k (linking k (last_or None xs) (first_or zs None) y t) ws
  linking_other t xs y zs ws c g =
      let a = last_or None xs in
      let b = first_or zs None in
      let right = cross_right xs (y ∷ zs) ws c in
      let cy = clear_off y ws right.0 in
      let ca = clear_last None xs ws (clear_none ws) (cross_left xs (y ∷ zs) ws c) in
      let cb = clear_first None ws zs (clear_none ws) (cross_sym zs ws right.1) in
      let t₁ = edit_at a (k.put_next (Some y)) t in
      let t₂ = edit_at b (k.put_prev (Some y)) t₁ in
      let t₃ = edit_at (Some y) (k.put_next b) t₂ in
      chained_clear k t₃ ws (Some y) (k.put_prev a) cy
      (chained_clear k t₂ ws (Some y) (k.put_next b) cy
      (chained_clear k t₁ ws b (k.put_prev (Some y)) cb (chained_clear k t ws a (k.put_next (Some y)) ca g)))
