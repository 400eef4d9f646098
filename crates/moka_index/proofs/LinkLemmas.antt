-- Orders and chains together, after each call.
use Rattle.std.proofs.Common.{◌≡◌, ◌≢◌, ℕ, ◌<◌, true, false, [], ◌∷◌, ◌++◌, Option, Some, None, MatchOption, refl, sym, ap, subst, ◌∙◌, arith, inl, inr, ⊎_elim}
use Rattle.std.specs.Prelude.{◌⊎◌}
use Rattle.std.proofs.lemmas.Bool.{cases_eq}
use Rattle.indexmap.specs.IndexMap.{IndexMap}
use Rattle.moka_index.specs.Paths.{IsAmong, IsAbsent, without, first_of, IsChain}
use Rattle.moka_index.specs.Nodes.{next_of, row_of}
use Rattle.moka_index.specs.BucketHeads.{first_in}
use Rattle.moka_index.specs.Deques.{admitted_in, waiting_in, queue_in, end_of, hash_in, same_in, Stands, IsUnlinked, PreservesDeques, PreservesHashes}
use Rattle.moka_index.specs.Chains.{numbers_in, chain_in, IsIndexed}
use Rattle.moka_index.specs.declared.deques.Deques.{Deques}
use Rattle.moka_index.specs.declared.deques.Queue.{Queue}
use Rattle.moka_index.specs.declared.deques.Queue.TheVariants.{Admitted, Waiting}
use Rattle.moka_index.proofs.PathLemmas.{apart-counted, among-without, among-others, absent-without, among-front, among-back, among-push, row_of-row, row_of-end}
use Rattle.moka_index.proofs.DequeLemmas.{ordered-first}
use Rattle.moka_index.proofs.ChainLemmas.{chain-line, line-chain, line-frame}
use Rattle.moka_index.proofs.IndexLemmas.{Chained, chained-in, indexed, stands-among, among-stands, number-above, first-among, chained-moved, chained-left, chained-came, chain_with}

-- the end of a queue is no row, and links to the first number of the queue
pub end-below : (queue : Queue) → end_of queue < 2
end-below Admitted = omega arith
end-below Waiting = omega arith

pub queue-first : (o : Deques) (queue : Queue) → row_of (next_of o.nodes.items (end_of queue)) ≡ first_of (queue_in o queue)
queue-first o Admitted = ordered-first o.nodes.items 0 true (admitted_in o) (omega arith) o.ringed.first
queue-first o Waiting = ordered-first o.nodes.items 1 false (waiting_in o) (omega arith) o.ringed.second

-- a number that was removed is in no order
pub absent-left : (o d : Deques) (n : ℕ) → admitted_in d ≡ without n (admitted_in o) → waiting_in d ≡ without n (waiting_in o) → IsUnlinked d n
absent-left o d n admitted waiting = (
  subst (IsAbsent n) (sym admitted) (absent-without n (admitted_in o) (apart-counted (admitted_in o) o.ringed.first.apart)),
  subst (IsAbsent n) (sym waiting) (absent-without n (waiting_in o) (apart-counted (waiting_in o) o.ringed.second.apart)),
)

-- if the orders are the same, so are the numbers in them
stands-same : (o d : Deques) → admitted_in d ≡ admitted_in o → waiting_in d ≡ waiting_in o → (k : ℕ) → Stands d k → Stands o k
stands-same o d admitted waiting k q = ⊎_elim (λ t. inl (subst (IsAmong k) admitted t)) (λ t. inr (subst (IsAmong k) waiting t)) q

module _ {S : Type 0} where
  pub indexed-grown : (o d : Deques) (bucket_heads bucket_heads' : IndexMap ℕ ℕ S) → admitted_in d ≡ admitted_in o → waiting_in d ≡ waiting_in o
      → ((k : ℕ) → same_in d k ≡ same_in o k) → ((k : ℕ) → hash_in d k ≡ hash_in o k)
      → ((h : ℕ) → first_in bucket_heads' h ≡ first_in bucket_heads h) → IsIndexed o bucket_heads → IsIndexed d bucket_heads'
  indexed-grown o d bucket_heads bucket_heads' admitted waiting sames hashes heads i =
      indexed d bucket_heads' (chain_in o bucket_heads)
      (chained-moved (same_in o) (hash_in o) (first_in bucket_heads) (numbers_in o) (chain_in o bucket_heads) (chained-in o bucket_heads i)
      (same_in d) (hash_in d) (first_in bucket_heads') (numbers_in d) sames hashes heads
      (λ k q. among-stands o k (stands-same o d admitted waiting k (stands-among d k q)))
      (λ k q. among-stands d k (stands-same d o (sym admitted) (sym waiting) k (stands-among o k q))))

  pub indexed-admitted : (o d : Deques) (bucket_heads : IndexMap ℕ ℕ S) (n : ℕ) → Stands o n → admitted_in d ≡ without n (admitted_in o) ++ n ∷ [] → waiting_in d ≡ without n (waiting_in o)
      → ((k : ℕ) → same_in d k ≡ same_in o k) → ((k : ℕ) → hash_in d k ≡ hash_in o k) → IsIndexed o bucket_heads → IsIndexed d bucket_heads
  indexed-admitted o d bucket_heads n stands admitted waiting sames hashes i =
      indexed d bucket_heads (chain_in o bucket_heads)
      (chained-moved (same_in o) (hash_in o) (first_in bucket_heads) (numbers_in o) (chain_in o bucket_heads) (chained-in o bucket_heads i)
      (same_in d) (hash_in d) (first_in bucket_heads) (numbers_in d) sames hashes (λ h. refl)
      (λ k q. among-stands o k (stood k (stands-among d k q)))
      (λ k q. among-stands d k (stays k (stands-among o k q))))
    where
      stood : (k : ℕ) → Stands d k → Stands o k
      stood k q =
          ⊎_elim (λ t. ⊎_elim (λ a. inl (among-without n k (admitted_in o) a)) (λ e. subst (Stands o) e stands) (among-push k n (without n (admitted_in o)) (subst (IsAmong k) admitted t)))
          (λ t. inr (among-without n k (waiting_in o) (subst (IsAmong k) waiting t))) q

      new : (k : ℕ) → k ≡ n → Stands d k
      new k e = inl (subst (IsAmong k) (sym admitted) (among-back k (without n (admitted_in o)) (n ∷ []) (inl (sym e))))

      other : (k : ℕ) → k ≢ n → Stands o k → Stands d k
      other k ne q =
          ⊎_elim (λ t. inl (subst (IsAmong k) (sym admitted) (among-front k (without n (admitted_in o)) (n ∷ []) (among-others n k (admitted_in o) ne t))))
          (λ t. inr (subst (IsAmong k) (sym waiting) (among-others n k (waiting_in o) ne t))) q

      stays : (k : ℕ) → Stands o k → Stands d k
      stays k q = ⊎_elim (λ e. new k e) (λ ne. other k ne q) (cases_eq k n)

  pub indexed-removed : (o b d : Deques) (bucket_heads bucket_heads' : IndexMap ℕ ℕ S) (n : ℕ) → PreservesDeques o b → ((k : ℕ) → hash_in b k ≡ hash_in o k)
      → ((h : ℕ) → IsChain (same_in b) (first_in bucket_heads' h) (without n (chain_in o bucket_heads h)))
      → admitted_in d ≡ without n (admitted_in b) → waiting_in d ≡ without n (waiting_in b) → PreservesHashes b d → IsIndexed o bucket_heads → IsIndexed d bucket_heads'
  indexed-removed o b d bucket_heads bucket_heads' n u hashes linked admitted waiting v i =
      indexed d bucket_heads' (λ h. without n (chain_in o bucket_heads h))
      (chained-left (same_in o) (hash_in o) (first_in bucket_heads) (numbers_in o) (chain_in o bucket_heads) (chained-in o bucket_heads i)
      (same_in d) (hash_in d) (first_in bucket_heads') (numbers_in d) n
      (λ h. line-chain (same_in d) (first_in bucket_heads' h) (without n (chain_in o bucket_heads h))
      (line-frame (same_in b) (same_in d) (first_in bucket_heads' h) (without n (chain_in o bucket_heads h)) (λ k q. v.same k)
      (chain-line (same_in b) (first_in bucket_heads' h) (without n (chain_in o bucket_heads h)) (linked h))))
      (λ k. v.hash k ∙ hashes k)
      (λ k q. let s = stands-among d k q in (among-stands o k (stood k s), gone k s))
      (λ k q ne. among-stands d k (stays k ne (stands-among o k q))))
    where
      admitted' : admitted_in d ≡ without n (admitted_in o)
      admitted' = admitted ∙ ap (without n) u.admitted

      waiting' : waiting_in d ≡ without n (waiting_in o)
      waiting' = waiting ∙ ap (without n) u.waiting

      stood : (k : ℕ) → Stands d k → Stands o k
      stood k q = ⊎_elim (λ t. inl (among-without n k (admitted_in o) (subst (IsAmong k) admitted' t))) (λ t. inr (among-without n k (waiting_in o) (subst (IsAmong k) waiting' t))) q

      gone : (k : ℕ) → Stands d k → k ≢ n
      gone k q e = let a = absent-left o d n admitted' waiting' in ⊎_elim (λ t. a.0 (subst (λ j. IsAmong j (admitted_in d)) e t)) (λ t. a.1 (subst (λ j. IsAmong j (waiting_in d)) e t)) q

      stays : (k : ℕ) → k ≢ n → Stands o k → Stands d k
      stays k ne q =
          ⊎_elim (λ t. inl (subst (IsAmong k) (sym admitted') (among-others n k (admitted_in o) ne t))) (λ t. inr (subst (IsAmong k) (sym waiting') (among-others n k (waiting_in o) ne t))) q

  -- the link to the number that was the first of a hash
  pub link-first : (o : Deques) (bucket_heads : IndexMap ℕ ℕ S) (hash same : ℕ) → IsIndexed o bucket_heads → MatchOption (first_in bucket_heads hash) (same ≡ 0) (λ first. same ≡ first) → row_of same ≡ first_in bucket_heads hash
  link-first o bucket_heads hash same i m = go (first_in bucket_heads hash) refl m
    where
      c : Chained (same_in o) (hash_in o) (first_in bucket_heads) (numbers_in o) (chain_in o bucket_heads)
      c = chained-in o bucket_heads i

      go : (first : Option ℕ) → first_in bucket_heads hash ≡ first → MatchOption first (same ≡ 0) (λ first. same ≡ first) → row_of same ≡ first
      go None is e = ap row_of e ∙ row_of-end 0 (omega arith)
      go (Some f) is e =
          let there = first-among (same_in o) (hash_in o) (first_in bucket_heads) (numbers_in o) (chain_in o bucket_heads) c hash f is in
          let above = number-above o f (stands-among o f (c.members hash f there).0) in
          ap row_of e ∙ row_of-row f above

  pub indexed-added : (o b d : Deques) (bucket_heads bucket_heads' : IndexMap ℕ ℕ S) (n hash same : ℕ) → (Stands o n → ⊥) → PreservesDeques o b
      → row_of same ≡ first_in bucket_heads hash → same_in b n ≡ row_of same → ((k : ℕ) → k ≢ n → same_in b k ≡ same_in o k)
      → hash_in b n ≡ hash → ((k : ℕ) → k ≢ n → hash_in b k ≡ hash_in o k)
      → first_in bucket_heads' hash ≡ Some n → ((h : ℕ) → h ≢ hash → first_in bucket_heads' h ≡ first_in bucket_heads h)
      → admitted_in d ≡ admitted_in b → waiting_in d ≡ waiting_in b ++ n ∷ [] → PreservesHashes b d → IsIndexed o bucket_heads → IsIndexed d bucket_heads'
  indexed-added o b d bucket_heads bucket_heads' n hash same absent u leads sames-n sames hash-n hashes head heads admitted waiting v i =
      indexed d bucket_heads' (chain_with (same_in o) (hash_in o) (first_in bucket_heads) (numbers_in o) (chain_in o bucket_heads) c n hash)
      (chained-came (same_in o) (hash_in o) (first_in bucket_heads) (numbers_in o) (chain_in o bucket_heads) c
      (same_in d) (hash_in d) (first_in bucket_heads') (numbers_in d) n hash
      (λ q. absent (stands-among o n q)) (v.same n ∙ sames-n ∙ leads) (λ k ne. v.same k ∙ sames k ne) (v.hash n ∙ hash-n) (λ k ne. v.hash k ∙ hashes k ne) head heads
      (λ k q. fewer k (stands-among d k q)) (λ k q. among-stands d k (more k q)))
    where
      c : Chained (same_in o) (hash_in o) (first_in bucket_heads) (numbers_in o) (chain_in o bucket_heads)
      c = chained-in o bucket_heads i

      fewer : (k : ℕ) → Stands d k → IsAmong k (numbers_in o) ⊎ (n ≡ k)
      fewer k q =
          ⊎_elim (λ t. inl (among-stands o k (inl (subst (IsAmong k) (admitted ∙ u.admitted) t))))
          (λ t. ⊎_elim (λ s. inl (among-stands o k (inr (subst (IsAmong k) u.waiting s)))) (λ e. inr e) (among-push k n (waiting_in b) (subst (IsAmong k) waiting t))) q

      old : (k : ℕ) → Stands o k → Stands d k
      old k q =
          ⊎_elim (λ t. inl (subst (IsAmong k) (sym (admitted ∙ u.admitted)) t))
          (λ t. inr (subst (IsAmong k) (sym waiting) (among-front k (waiting_in b) (n ∷ []) (subst (IsAmong k) (sym u.waiting) t)))) q

      more : (k : ℕ) → IsAmong k (numbers_in o) ⊎ (n ≡ k) → Stands d k
      more k q = ⊎_elim (λ t. old k (stands-among o k t)) (λ e. inr (subst (IsAmong k) (sym waiting) (among-back k (waiting_in b) (n ∷ []) (inl e)))) q
