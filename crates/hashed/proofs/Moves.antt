-- A slot taken out of one chain and put in front of another.
use Rattle.std.proofs.Common.{◌≡◌, ℕ, ◌<◌, ◌≤◌, cond, eqb, ◌⊎◌, List, [], ◌∷◌, length, Some, None, Option, sym, refl, ap, ◌∙◌, inl, inr, ⊎_elim}
use Rattle.std.proofs.lemmas.Bool.{cond_both, cases_eq, eqb-true, eqb-false}
use Rattle.hashed.specs.Chains.{In, Path, Chained}
use Rattle.hashed.specs.Steps.{onto, last_of, Split}
use Rattle.hashed.proofs.Lists.{Distinct, short, in_onto, onto_in, distinct_back, distinct_parts}
use Rattle.hashed.proofs.Paths.{path_distinct, path_kept, path_onto}

-- What the link to the slot i of the chain b becomes: the head's, or that of the slot before.
abbrev pub Closed : (i b : ℕ) (before : Option ℕ) (link link' head head' : ℕ → Option ℕ) → Type 0
Closed i b None link link' head head' = head' b ≡ link i
Closed i b (Some p) link link' head head' = (head' b ≡ head b) × (link' p ≡ link i)

-- The slot i, which `before` stands before in the chain b, is now in front of the chain c, and else all is as it was.
pub record Moved (i b c : ℕ) (before : Option ℕ) (own own' : ℕ → ℕ) (link link' head head' : ℕ → Option ℕ) : Type 0 where
  pub to : own' i ≡ c
  pub owners : (j : ℕ) → (j ≡ i → ⊥) → own' j ≡ own j
  pub front : head' c ≡ Some i
  pub onward : link' i ≡ head c
  pub closed : Closed i b before link link' head head'
  pub links : (j : ℕ) → (j ≡ i → ⊥) → (before ≡ Some j → ⊥) → link' j ≡ link j
  pub heads : (d : ℕ) → (d ≡ c → ⊥) → (d ≡ b → ⊥) → head' d ≡ head d

-- A chain has at most n slots.
pub chain_short : {n : ℕ} {own : ℕ → ℕ} {link head : ℕ → Option ℕ} (st : Chained n own link head) (b : ℕ) → length (st.chain b) ≤ n
chain_short {n} {own} {link} {head} st b =
    short n (st.chain b) (path_distinct link (head b) (st.chain b) (st.linked b)) (λ x m. (st.inside b x m).0)

module _ {n i b : ℕ} {before : Option ℕ} {own : ℕ → ℕ} {link head : ℕ → Option ℕ} (st : Chained n own link head) (split : Split (st.chain b) before i) where
  in_b : (j : ℕ) → In j (onto split.behind (i ∷ split.ahead)) → (j < n) × (own j ≡ b)
  in_b j m = st.inside b j (rw split.whole m)

  own_i : own i ≡ b
  own_i = (in_b i (in_onto i split.behind (i ∷ split.ahead) (inr (inl refl)))).1

  path_b : Path link (head b) (onto split.behind (i ∷ split.ahead))
  path_b = rw split.whole at (st.linked b)

  distinct_b : Distinct (onto split.behind (i ∷ split.ahead))
  distinct_b = path_distinct link (head b) _ path_b

  in_behind : (behind : List ℕ) (j : ℕ) → last_of behind ≡ Some j → In j behind
  in_behind [] j e = cc
  in_behind (p ∷ ps) j e = inl (cc)

  -- The slot before i is another one of its chain.
  last_in : (j : ℕ) → before ≡ Some j → In j split.behind
  last_in j e = in_behind split.behind j (sym split.last ∙ e)

  own_before : (j : ℕ) → before ≡ Some j → own j ≡ b
  own_before j e = (in_b j (in_onto j split.behind (i ∷ split.ahead) (inl (last_in j e)))).1

  pub before_apart : (j : ℕ) → before ≡ Some j → (j < n) × (j ≡ i → ⊥)
  before_apart j e = (
    (in_b j (in_onto j split.behind (i ∷ split.ahead) (inl (last_in j e)))).0,
    λ same. distinct_parts split.behind (i ∷ split.ahead) distinct_b j (last_in j e) (inl same),
  )

module _ {n i b c : ℕ} {before : Option ℕ} {own own' : ℕ → ℕ} {link link' head head' : ℕ → Option ℕ}
    (st : Chained n own link head) (split : Split (st.chain b) before i) (apart : b ≡ c → ⊥) (moved : Moved i b c before own own' link link' head head') where
  -- The chains after.
  abbrev chain' : ℕ → List ℕ
  chain' d = cond (eqb d c) (i ∷ st.chain c) (cond (eqb d b) (onto split.behind split.ahead) (st.chain d))

  by_chain : (P : ℕ → List ℕ → Type 0) → P c (i ∷ st.chain c) → P b (onto split.behind split.ahead) → ((d : ℕ) → (d ≡ c → ⊥) → (d ≡ b → ⊥) → P d (st.chain d)) → (d : ℕ) → P d (chain' d)
  by_chain P at_c at_b other d =
      cond_both (eqb d c) _ _ (P d)
      (λ t. rw (eqb-true d c t) at_c)
      (λ f.
      cond_both (eqb d b) _ _ (P d)
      (λ t. rw (eqb-true d b t) at_b)
      (λ h. other d (eqb-false d c f) (eqb-false d b h)))

  -- ---- the links that stay

  elsewhere : (d j : ℕ) → (d ≡ b → ⊥) → In j (st.chain d) → link' j ≡ link j
  elsewhere d j other m =
      let mine = (st.inside d j m).1 in
      moved.links j
      (λ e. other (sym mine ∙ ap own e ∙ own_i st split))
      (λ e. other (sym mine ∙ own_before st split j e))

  linked_c : Path link' (head' c) (i ∷ st.chain c)
  linked_c =
      (moved.front, rw moved.onward (path_kept link link' (head c) (st.chain c) (λ j m. elsewhere c j (λ e. apart (sym e)) m) (st.linked c)))

  linked_other : (d : ℕ) → (d ≡ c → ⊥) → (d ≡ b → ⊥) → Path link' (head' d) (st.chain d)
  linked_other d not-c not-b =
      rw (moved.heads d not-c not-b) (path_kept link link' (head d) (st.chain d) (λ j m. elsewhere d j not-b m) (st.linked d))

  linked_b : (behind ahead : List ℕ) → Path link (head b) (onto behind (i ∷ ahead)) → Distinct (onto behind (i ∷ ahead)) → before ≡ last_of behind → Path link' (head' b) (onto behind ahead)
  linked_b [] ahead path d last =
      let closed : head' b ≡ link i = rw last at moved.closed in
      let kept : (j : ℕ) → In j ahead → link' j ≡ link j =
      λ j m. moved.links j (λ e. d.0 (rw e at m)) (λ e. cc) in
      rw closed (path_kept link link' (link i) ahead kept path.1)
  linked_b (p ∷ ps) ahead path d last =
      let closed : (head' b ≡ head b) × (link' p ≡ link i) = rw last at moved.closed in
      let off-i : (j : ℕ) → In j (p ∷ ps) ⊎ In j ahead → j ≡ i → ⊥ =
      λ j m e. ⊎_elim
      (λ k. distinct_parts (p ∷ ps) (i ∷ ahead) d j k (inl e))
      (λ k. (distinct_back (p ∷ ps) (i ∷ ahead) d).0 (rw e at k))
      m in
      let off-p : (j : ℕ) → In j ps ⊎ In j ahead → j ≡ p → ⊥ =
      λ j m e. ⊎_elim
      (λ k. distinct_parts ps (p ∷ (i ∷ ahead)) d j k (inl e))
      (λ k. distinct_parts (p ∷ ps) (i ∷ ahead) d j (inl e) (inr k))
      m in
      let kept : (j : ℕ) → In j ps ⊎ In j ahead → link' j ≡ link j =
      λ j m. moved.links j (off-i j (⊎_elim (λ k. inl (inr k)) inr m)) (λ e. off-p j m (cc)) in
      rw closed.0
      (path_onto link link' ps (p ∷ (i ∷ ahead)) (p ∷ ahead)
      (λ o q. (q.0, rw closed.1 (path_kept link link' (link i) ahead (λ j m. kept j (inr m)) q.1.1)))
      (λ j m. kept j (inl m)) (head b) path)

  -- ---- the slots that each chain has

  inside' : (d j : ℕ) → In j (chain' d) → (j < n) × (own' j ≡ d)
  inside' =
      by_chain (λ d xs. (j : ℕ) → In j xs → (j < n) × (own' j ≡ d))
      (λ j m. ⊎_elim
      (λ e. rw e ((in_b st split i (in_onto i split.behind (i ∷ split.ahead) (inr (inl refl)))).0, moved.to))
      (λ m. let mine = st.inside c j m in (mine.0, moved.owners j (λ e. apart (sym (own_i st split) ∙ ap own (sym e) ∙ mine.1)) ∙ mine.1))
      m)
      (λ j m.
      let whole = in_onto j split.behind (i ∷ split.ahead) (⊎_elim inl (λ k. inr (inr k)) (onto_in j split.behind split.ahead m)) in
      let other : j ≡ i → ⊥ =
      λ e. ⊎_elim
      (λ k. distinct_parts split.behind (i ∷ split.ahead) (distinct_b st split) j k (inl e))
      (λ k. (distinct_back split.behind (i ∷ split.ahead) (distinct_b st split)).0 (rw e at k))
      (onto_in j split.behind split.ahead m) in
      let mine = in_b st split j whole in
      (mine.0, moved.owners j other ∙ mine.1))
      (λ d not-c not-b j m.
      let mine = st.inside d j m in
      (mine.0, moved.owners j (λ e. not-b (sym mine.1 ∙ ap own e ∙ own_i st split)) ∙ mine.1))

  -- Every slot but i is where it was, and i is in c.
  whole' : (d : ℕ) → (j : ℕ) → j < n → own' j ≡ d → In j (chain' d)
  whole' =
      by_chain (λ d xs. (j : ℕ) → j < n → own' j ≡ d → In j xs)
      (λ j less e. ⊎_elim inl (λ ne. inr (was c j less ne e)) (cases_eq j i))
      (λ j less e.
      let ne : j ≡ i → ⊥ = λ s. apart (sym e ∙ ap own' s ∙ moved.to) in
      in_onto j split.behind split.ahead
      (⊎_elim inl (⊎_elim (λ s. absurd (ne s)) inr) (onto_in j split.behind (i ∷ split.ahead) (rw split.whole at (was b j less ne e)))))
      (λ d not-c not-b j less e. was d j less (λ s. not-c (sym e ∙ ap own' s ∙ moved.to)) e)
    where
      was : (d j : ℕ) → j < n → (j ≡ i → ⊥) → own' j ≡ d → In j (st.chain d)
      was d j less ne e = rw (sym (moved.owners j ne) ∙ e) at (st.whole j less)

  pub chained : Chained n own' link' head'
  chained = record {
    chain = chain';
    linked = by_chain (λ d xs. Path link' (head' d) xs) linked_c (linked_b split.behind split.ahead (path_b st split) (distinct_b st split) split.last) linked_other;
    inside = inside';
    whole = λ j less. whole' (own' j) j less refl;
  }
