-- Nodes whose neighbours lead back, before and after one of them is taken out or put in.
use Rattle.std.proofs.Common.{◌≡◌, ◌≢◌, ℕ, ◌+◌, ◌^◌, ◌<◌, ◌≤◌, List, [], ◌∷◌, ◌++◌, length, slice_index_or, set, refl, sym, ap, ◌∙◌, arith, rules, ⊎_elim, length-append}
use Rattle.std.proofs.lemmas.Bool.{cases_eq, cases_lt}
use Rattle.std.proofs.lemmas.List.{get_or_past, get_or_default, get_or_append_left, get_or_at, get_or-set_same, get_or-set_other, length-set}
use Rattle.moka_index.specs.Nodes.{node_at, next_of, prev_of, alone, IsMutual, SetsNext, SetsPrev, PreservesRest, Grows, Unlinks, LinksBefore, Relinks}
use Rattle.moka_index.specs.declared.nodes.Node.{Node}

pub node_at-past : (nodes : List Node) (k : ℕ) → length nodes ≤ k → node_at nodes k ≡ alone k
node_at-past nodes k past = search (rules, get_or_past)

-- a node that is read at an index is the node of that number
pub node_at-read : (nodes : List Node) (k : ℕ) (node : Node) → k < length nodes → node ≡ slice_index_or nodes k node → node_at nodes k ≡ node
node_at-read nodes k node within read = search (rules, get_or_default)

-- the neighbours of a number that has a node have nodes
pub next-within : (nodes : List Node) (k : ℕ) → IsMutual nodes → k < length nodes → next_of nodes k < length nodes
next-within nodes k m within = ⊎_elim (λ e. e) (λ past. absurd (not past)) (cases_lt (next_of nodes k) (length nodes))
  where
    not : length nodes ≤ next_of nodes k → ⊥
    not past = let same : next_of nodes k ≡ k = sym (ap (λ n. n.prev) (node_at-past nodes (next_of nodes k) past)) ∙ m.forth k in omega arith

pub prev-within : (nodes : List Node) (k : ℕ) → IsMutual nodes → k < length nodes → prev_of nodes k < length nodes
prev-within nodes k m within = ⊎_elim (λ e. e) (λ past. absurd (not past)) (cases_lt (prev_of nodes k) (length nodes))
  where
    not : length nodes ≤ prev_of nodes k → ⊥
    not past = let same : prev_of nodes k ≡ k = sym (ap (λ n. n.next) (node_at-past nodes (prev_of nodes k) past)) ∙ m.back k in omega arith

pub preserves-then : (o a b : List Node) → PreservesRest o a → PreservesRest a b → PreservesRest o b
preserves-then o a b u v = record { same = λ k. v.same k ∙ u.same k; hash = λ k. v.hash k ∙ u.hash k; order = λ k. v.order k ∙ u.order k; len = v.len ∙ u.len }

-- four changes take a number out
pub unlinks : (o a b c d : List Node) (x : ℕ) → IsMutual o → SetsNext o a (prev_of o x) (next_of o x) → SetsPrev a b (next_of o x) (prev_of o x)
    → SetsNext b c x x → SetsPrev c d x x → Unlinks o d x
unlinks o a b c d x m s1 s2 s3 s4 = record {
  next = s4.next x ∙ s3.changed;
  prev = s4.changed;
  forth = λ k other h. s4.next k ∙ s3.others k other ∙ s2.next k ∙ ap (next_of a) (sym (m.forth k) ∙ ap (prev_of o) h) ∙ s1.changed;
  others_forth = λ k other h. s4.next k ∙ s3.others k other ∙ s2.next k ∙ s1.others k (λ e. h (ap (next_of o) e ∙ m.back x));
  back = λ k other h. s4.others k other ∙ s3.prev k ∙ ap (prev_of b) (sym (m.back k) ∙ ap (next_of o) h) ∙ s2.changed;
  others_back = λ k other h. s4.others k other ∙ s3.prev k ∙ s2.others k (λ e. h (ap (prev_of o) e ∙ m.forth x)) ∙ s1.prev k;
  rest = preserves-then o c d (preserves-then o b c (preserves-then o a b s1.rest s2.rest) s3.rest) s4.rest;
}

-- four changes insert an isolated number before another
pub links : (o a b c d : List Node) (x e : ℕ) → IsMutual o → next_of o x ≡ x → x ≢ e → SetsNext o a (prev_of o e) x → SetsNext a b x e
    → SetsPrev b c x (prev_of o e) → SetsPrev c d e x → LinksBefore o d x e
links o a b c d x e m alone other s1 s2 s3 s4 = record {
  next = s4.next x ∙ s3.next x ∙ s2.changed;
  prev = s4.others x other ∙ s3.changed;
  forth = λ k away h. s4.next k ∙ s3.next k ∙ s2.others k away ∙ ap (next_of a) (sym (m.forth k) ∙ ap (prev_of o) h) ∙ s1.changed;
  others_forth = λ k away h. s4.next k ∙ s3.next k ∙ s2.others k away ∙ s1.others k (λ q. h (ap (next_of o) q ∙ m.back e));
  back = s4.changed;
  others_back = λ k away far. s4.others k far ∙ s3.others k away ∙ s2.prev k ∙ s1.prev k;
  rest = preserves-then o c d (preserves-then o b c (preserves-then o a b s1.rest s2.rest) s3.rest) s4.rest;
}

-- if g is the inverse of f, it still is after x was unlinked in both
unlinked-inverse : (f g f' g' : ℕ → ℕ) (x : ℕ) → ((k : ℕ) → g (f k) ≡ k) → f' x ≡ x → g' x ≡ x
    → ((k : ℕ) → k ≢ x → f k ≡ x → f' k ≡ f x) → ((k : ℕ) → k ≢ x → f k ≢ x → f' k ≡ f k)
    → ((k : ℕ) → k ≢ x → g k ≡ x → g' k ≡ g x) → ((k : ℕ) → k ≢ x → g k ≢ x → g' k ≡ g k) → (k : ℕ) → g' (f' k) ≡ k
unlinked-inverse f g f' g' x m fx gx forth others_forth back others_back k = ⊎_elim (λ e. here e) (λ ne. there ne) (cases_eq k x)
  where
    here : k ≡ x → g' (f' k) ≡ k
    here e = ap (λ j. g' (f' j)) e ∙ ap g' fx ∙ gx ∙ sym e

    before : k ≢ x → f k ≡ x → g' (f' k) ≡ k
    before ne h =
        let far : f x ≢ x = λ q. ne (sym (m k) ∙ ap g (h ∙ sym q) ∙ m x) in
        ap g' (forth k ne h) ∙ back (f x) far (m x) ∙ ap g (sym h) ∙ m k

    elsewhere : k ≢ x → f k ≢ x → g' (f' k) ≡ k
    elsewhere ne h = ap g' (others_forth k ne h) ∙ others_back (f k) h (λ q. ne (sym (m k) ∙ q)) ∙ m k

    there : k ≢ x → g' (f' k) ≡ k
    there ne = ⊎_elim (λ h. before ne h) (λ h. elsewhere ne h) (cases_eq (f k) x)

pub mutual-unlinked : (o d : List Node) (x : ℕ) → IsMutual o → Unlinks o d x → IsMutual d
mutual-unlinked o d x m u = record {
  forth = unlinked-inverse (next_of o) (prev_of o) (next_of d) (prev_of d) x m.forth u.next u.prev u.forth u.others_forth u.back u.others_back;
  back = unlinked-inverse (prev_of o) (next_of o) (prev_of d) (next_of d) x m.back u.prev u.next u.back u.others_back u.forth u.others_forth;
}

pub mutual-linked : (o d : List Node) (x e : ℕ) → IsMutual o → next_of o x ≡ x → x ≢ e → LinksBefore o d x e → IsMutual d
mutual-linked o d x e m alone other u = record {
  forth = λ k. ⊎_elim (λ q. ap (λ j. prev_of d (next_of d j)) q ∙ ap (prev_of d) u.next ∙ u.back ∙ sym q) (λ q. ⊎_elim (λ h. forth-at k q h) (λ h. forth-other k q h) (cases_eq (next_of o k) e)) (cases_eq k x);
  back = λ k. ⊎_elim (λ q. back-new k q) (λ q. ⊎_elim (λ h. ap (λ j. next_of d (prev_of d j)) h ∙ ap (next_of d) u.back ∙ u.next ∙ sym h) (λ h. back-other k q h) (cases_eq k e)) (cases_eq k x);
}
  where
    back-alone : prev_of o x ≡ x
    back-alone = ap (prev_of o) (sym alone) ∙ m.forth x

    forth-at : (k : ℕ) → k ≢ x → next_of o k ≡ e → prev_of d (next_of d k) ≡ k
    forth-at k q h = ap (prev_of d) (u.forth k q h) ∙ u.prev ∙ ap (prev_of o) (sym h) ∙ m.forth k

    forth-other : (k : ℕ) → k ≢ x → next_of o k ≢ e → prev_of d (next_of d k) ≡ k
    forth-other k q h = ap (prev_of d) (u.others_forth k q h) ∙ u.others_back (next_of o k) (λ t. q (sym (m.forth k) ∙ ap (prev_of o) t ∙ back-alone)) h ∙ m.forth k

    back-new : (k : ℕ) → k ≡ x → next_of d (prev_of d k) ≡ k
    back-new k q =
        ap (λ j. next_of d (prev_of d j)) q ∙ ap (next_of d) u.prev
        ∙ u.forth (prev_of o e) (λ t. other (sym alone ∙ ap (next_of o) (sym t) ∙ m.back e)) (m.back e) ∙ sym q

    back-other : (k : ℕ) → k ≢ x → k ≢ e → next_of d (prev_of d k) ≡ k
    back-other k q h =
        ap (next_of d) (u.others_back k q h)
        ∙ u.others_forth (prev_of o k) (λ t. q (sym (m.back k) ∙ ap (next_of o) t ∙ alone)) (λ t. h (sym (m.back k) ∙ t)) ∙ m.back k

-- the nodes with one of them isolated
abbrev closed : List Node → ℕ → List Node
closed b x = set b x (record (node_at b x) { prev = x; next = x })

-- six changes move a number before another, as if it had been isolated in between
module _ (o a b : List Node) (x e : ℕ) (within : x < length o) (m : IsMutual o) (other : x ≢ e)
    (s1 : SetsNext o a (prev_of o x) (next_of o x)) (s2 : SetsPrev a b (next_of o x) (prev_of o x)) where
  closed-here : node_at (closed b x) x ≡ record (node_at b x) { prev = x; next = x }
  closed-here = get_or-set_same b x (record (node_at b x) { prev = x; next = x }) (alone x) (rw (s2.rest.len, s1.rest.len) within)

  closed-there : (k : ℕ) → k ≢ x → node_at (closed b x) k ≡ node_at b k
  closed-there k ne = get_or-set_other b x k (record (node_at b x) { prev = x; next = x }) (alone k) ne

  closed-field : {A : Type 0} (p : Node → A) → p (record (node_at b x) { prev = x; next = x }) ≡ p (node_at b x) → (k : ℕ) → p (node_at (closed b x) k) ≡ p (node_at b k)
  closed-field p is k =
      ⊎_elim (λ q. ap (λ t. p (node_at (closed b x) t)) q ∙ ap p closed-here ∙ is ∙ ap (λ t. p (node_at b t)) (sym q)) (λ ne. ap p (closed-there k ne)) (cases_eq k x)

  closed-preserves : PreservesRest b (closed b x)
  closed-preserves = record {
    same = closed-field (λ n. n.same) refl;
    hash = closed-field (λ n. n.hash) refl;
    order = closed-field (λ n. n.is_admitted) refl;
    len = length-set b x (record (node_at b x) { prev = x; next = x });
  }

  closed-unlinks : Unlinks o (closed b x) x
  closed-unlinks = record {
    next = ap (λ n. n.next) closed-here;
    prev = ap (λ n. n.prev) closed-here;
    forth = λ k ne h. ap (λ n. n.next) (closed-there k ne) ∙ s2.next k ∙ ap (next_of a) (sym (m.forth k) ∙ ap (prev_of o) h) ∙ s1.changed;
    others_forth = λ k ne h. ap (λ n. n.next) (closed-there k ne) ∙ s2.next k ∙ s1.others k (λ q. h (ap (next_of o) q ∙ m.back x));
    back = λ k ne h. ap (λ n. n.prev) (closed-there k ne) ∙ ap (prev_of b) (sym (m.back k) ∙ ap (next_of o) h) ∙ s2.changed;
    others_back = λ k ne h. ap (λ n. n.prev) (closed-there k ne) ∙ s2.others k (λ q. h (ap (prev_of o) q ∙ m.forth x)) ∙ s1.prev k;
    rest = preserves-then o b (closed b x) (preserves-then o a b s1.rest s2.rest) closed-preserves;
  }

  closed-mutual : IsMutual (closed b x)
  closed-mutual = mutual-unlinked o (closed b x) x m closed-unlinks

  closed-last : prev_of (closed b x) e ≡ prev_of b e
  closed-last = ap (λ n. n.prev) (closed-there e (λ q. other (sym q)))

  pub last-within : e < length o → prev_of b e < length b
  last-within inside =
      let far = prev-within (closed b x) e closed-mutual (rw (closed-preserves.len, s2.rest.len, s1.rest.len) inside) in
      let len = closed-preserves.len in
      let last = closed-last in
      omega arith

  closed-links : (c d f g : List Node) → SetsNext b c (prev_of b e) x → SetsNext c d x e → SetsPrev d f x (prev_of b e) → SetsPrev f g e x → LinksBefore (closed b x) g x e
  closed-links c d f g s3 s4 s5 s6 =
      let rest = preserves-then b f g (preserves-then b d f (preserves-then b c d s3.rest s4.rest) s5.rest) s6.rest in
      record {
        next = s6.next x ∙ s5.next x ∙ s4.changed;
        prev = s6.others x other ∙ s5.changed ∙ sym closed-last;
        forth = λ k away h. s6.next k ∙ s5.next k ∙ s4.others k away ∙ ap (next_of c) (sym (closed-mutual.forth k) ∙ ap (prev_of (closed b x)) h ∙ closed-last) ∙ s3.changed;
        others_forth = λ k away h.
            s6.next k ∙ s5.next k ∙ s4.others k away ∙ s3.others k (λ q. h (ap (next_of (closed b x)) (q ∙ sym closed-last) ∙ closed-mutual.back e))
            ∙ sym (ap (λ n. n.next) (closed-there k away));
        back = s6.changed;
        others_back = λ k away far. s6.others k far ∙ s5.others k away ∙ s4.prev k ∙ s3.prev k ∙ sym (ap (λ n. n.prev) (closed-there k away));
        rest = record {
          same = λ k. rest.same k ∙ sym (closed-preserves.same k);
          hash = λ k. rest.hash k ∙ sym (closed-preserves.hash k);
          order = λ k. rest.order k ∙ sym (closed-preserves.order k);
          len = rest.len ∙ sym closed-preserves.len;
        };
      }

  pub relinks : (c d f g : List Node) → SetsNext b c (prev_of b e) x → SetsNext c d x e → SetsPrev d f x (prev_of b e) → SetsPrev f g e x → Relinks o g x e
  relinks c d f g s3 s4 s5 s6 = record { between = closed b x; left = closed-unlinks; joined = closed-links c d f g s3 s4 s5 s6 }

-- one more node, which is isolated
pub node_at-push : (nodes : List Node) (k : ℕ) → node_at (nodes ++ alone (length nodes) ∷ []) k ≡ node_at nodes k
node_at-push nodes k = ⊎_elim (λ within. get_or_append_left nodes (alone (length nodes) ∷ []) (alone k) k within) (λ past. beyond past) (cases_lt k (length nodes))
  where
    whole : length (nodes ++ alone (length nodes) ∷ []) ≡ length nodes + 1
    whole = length-append nodes (alone (length nodes) ∷ [])

    beyond : length nodes ≤ k → node_at (nodes ++ alone (length nodes) ∷ []) k ≡ node_at nodes k
    beyond past =
        ⊎_elim (λ is. get_or_at nodes (alone (length nodes)) [] (alone k) k (sym is) ∙ ap alone (sym is))
        (λ ne. node_at-past (nodes ++ alone (length nodes) ∷ []) k (omega (arith, whole, past, ne))) (cases_eq k (length nodes)) ∙ sym (node_at-past nodes k past)

pub grows-push : (old nodes new : List Node) (place : ℕ) → Grows old nodes → length nodes ≡ place → place < 2 ^ 32 → new ≡ nodes ++ alone place ∷ [] → Grows old new
grows-push old nodes new place g at fits is =
    let same : new ≡ nodes ++ alone (length nodes) ∷ [] = is ∙ ap (λ t. nodes ++ alone t ∷ []) (sym at) in
    let whole : length new ≡ length nodes + 1 = ap length same ∙ length-append nodes (alone (length nodes) ∷ []) in
    record {
      same = λ k. ap (λ ns. node_at ns k) same ∙ node_at-push nodes k ∙ g.same k;
      more = omega (arith, g.more);
      few = omega arith;
    }
