-- The orders after a number was removed or added.
use Rattle.std.proofs.Common.{◌≡◌, ◌≢◌, ℕ, suc, ◌+◌, ◌-◌, ◌^◌, ◌<◌, ◌≤◌, Bool, true, false, List, [], ◌∷◌, ◌++◌, length, sym, ap, subst, ◌∙◌, arith, inl, ⊎_elim, length-append}
use Rattle.std.specs.Prelude.{◌⊎◌}
use Rattle.std.proofs.lemmas.Bool.{cases_eq}
use Rattle.moka_index.specs.Paths.{IsAmong, IsAbsent, without, steps, first_of, number_behind}
use Rattle.moka_index.specs.Nodes.{node_at, next_of, prev_of, row_of, IsMutual, Unlinks, LinksBefore, Relinks, SetsOrder}
use Rattle.moka_index.specs.Rings.{order, IsOrder, IsRinged}
use Rattle.moka_index.specs.declared.nodes.Node.{Node}
use Rattle.moka_index.proofs.NodeLemmas.{mutual-unlinked, mutual-linked}
use Rattle.moka_index.proofs.PathLemmas.{IsPath, apart-counted, counted-apart, path-ring, ring-path, among-without, among-others, apart-without, absent-without, length-without, without-absent, among-front, among-back, among-push, apart-push, few-below, path-steps, steps-same, length-steps, path-frame, path-left, path-joined, path-first, path-behind}

pub order_path : {o : List Node} {e : ℕ} {f : Bool} {zs : List ℕ} → IsOrder o e f zs → IsPath (next_of o) e zs e
order_path {o} {e} {f} {zs} h = path-ring (next_of o) e e zs h.ring

-- an order with this many numbers is the one that the nodes form
pub order-is : (o : List Node) (e : ℕ) (f : Bool) (zs : List ℕ) (n : ℕ) → IsOrder o e f zs → n ≡ length zs → order o e n ≡ zs
order-is o e f zs n h len = ap (λ t. order o e t) len ∙ path-steps (next_of o) e e zs (order_path h)

pub ringed-is : (o : List Node) (xs ys : List ℕ) (a w : ℕ) → IsRinged o xs ys → a ≡ length xs → w ≡ length ys → IsRinged o (order o 0 a) (order o 1 w)
ringed-is o xs ys a w h la lw = rw (order-is o 0 true xs a h.first la, order-is o 1 false ys w h.second lw) h

-- an order holds no more numbers than there are nodes
pub few-ordered : (o : List Node) (e : ℕ) (f : Bool) (zs : List ℕ) → IsOrder o e f zs → length zs ≤ length o
few-ordered o e f zs h = few-below (length o) zs (apart-counted zs h.apart) h.within

order-left : (o d : List Node) (x e : ℕ) (f : Bool) (zs : List ℕ) → e ≢ x → Unlinks o d x → IsOrder o e f zs → IsOrder d e f (without x zs)
order-left o d x e f zs ne u h = record {
  ring = ring-path (next_of d) e e (without x zs) (path-left (next_of o) (next_of d) x e e zs u.forth u.others_forth ne ne (apart-counted zs h.apart) (order_path h));
  apart = counted-apart (without x zs) (apart-without x zs (apart-counted zs h.apart));
  above = λ k q. h.above k (among-without x k zs q);
  within = λ k q. rw u.rest.len (h.within k (among-without x k zs q));
  flagged = λ k q. u.rest.order k ∙ h.flagged k (among-without x k zs q);
}

-- a number was removed
pub ringed-left : (o d : List Node) (x : ℕ) (xs ys : List ℕ) → 2 ≤ x → Unlinks o d x → IsRinged o xs ys → IsRinged d (without x xs) (without x ys)
ringed-left o d x xs ys above u h = record {
  neighbours = mutual-unlinked o d x h.neighbours u;
  first = order-left o d x 0 true xs (λ q. omega arith) u h.first;
  second = order-left o d x 1 false ys (λ q. omega arith) u h.second;
  alone = λ k up ax ay. ⊎_elim (λ is. ap (next_of d) is ∙ u.next ∙ sym is) (λ not. elsewhere k up ax ay not) (cases_eq k x);
  few = rw u.rest.len h.few;
}
  where
    elsewhere : (k : ℕ) → 2 ≤ k → IsAbsent k (without x xs) → IsAbsent k (without x ys) → k ≢ x → next_of d k ≡ k
    elsewhere k up ax ay not =
        let was : next_of o k ≡ k = h.alone k up (λ q. ax (among-others x k xs not q)) (λ q. ay (among-others x k ys not q)) in
        u.others_forth k not (λ q. not (sym was ∙ q)) ∙ was

-- the orders after a removal, with their lengths
pub record Moved (d : List Node) (xs ys : List ℕ) (a w : ℕ) : Type 0 where
  pub ringed : IsRinged d (order d 0 a) (order d 1 w)
  pub admitted : order d 0 a ≡ xs
  pub waiting : order d 1 w ≡ ys

pub moved : (d : List Node) (xs ys : List ℕ) (a w : ℕ) → IsRinged d xs ys → a ≡ length xs → w ≡ length ys → Moved d xs ys a w
moved d xs ys a w h la lw = record {
  ringed = ringed-is d xs ys a w h la lw;
  admitted = order-is d 0 true xs a h.first la;
  waiting = order-is d 1 false ys w h.second lw;
}

-- a number in an order is that of a row, and has a node
pub stands-within : (o : List Node) (xs ys : List ℕ) (k : ℕ) → IsRinged o xs ys → IsAmong k xs ⊎ IsAmong k ys → k < length o
stands-within o xs ys k h q = ⊎_elim (h.first.within k) (h.second.within k) q

pub stands-above : (o : List Node) (xs ys : List ℕ) (k : ℕ) → IsRinged o xs ys → IsAmong k xs ⊎ IsAmong k ys → 2 ≤ k
stands-above o xs ys k h q = ⊎_elim (h.first.above k) (h.second.above k) q

-- a number is in only one order
pub not-both : (o : List Node) (xs ys : List ℕ) (k : ℕ) → IsRinged o xs ys → IsAmong k xs → IsAmong k ys → ⊥
not-both o xs ys k h p q = let differ : true ≡ false = sym (h.first.flagged k p) ∙ h.second.flagged k q in cc

pub length-order : (o : List Node) (e n : ℕ) → length (order o e n) ≡ n
length-order o e n = length-steps (next_of o) n (next_of o e)

pub left-admitted : (o d : List Node) (x a w : ℕ) → IsRinged o (order o 0 a) (order o 1 w) → IsAmong x (order o 0 a) → Unlinks o d x
    → Moved d (without x (order o 0 a)) (without x (order o 1 w)) (a - 1) w
left-admitted o d x a w h there u =
    let xs = order o 0 a in
    let ys = order o 1 w in
    let less = length-without x xs there in
    let few = length-order o 0 a in
    let same : without x ys ≡ ys = without-absent x ys (λ q. not-both o xs ys x h there q) in
    moved d (without x xs) (without x ys) (a - 1) w (ringed-left o d x xs ys (h.first.above x there) u h) (omega arith) (rw same (sym (length-order o 1 w)))

pub left-waiting : (o d : List Node) (x a w : ℕ) → IsRinged o (order o 0 a) (order o 1 w) → IsAmong x (order o 1 w) → Unlinks o d x
    → Moved d (without x (order o 0 a)) (without x (order o 1 w)) a (w - 1)
left-waiting o d x a w h there u =
    let xs = order o 0 a in
    let ys = order o 1 w in
    let less = length-without x ys there in
    let few = length-order o 1 w in
    let same : without x xs ≡ xs = without-absent x xs (λ q. not-both o xs ys x h q there) in
    moved d (without x xs) (without x ys) a (w - 1) (ringed-left o d x xs ys (h.second.above x there) u h) (rw same (sym (length-order o 0 a))) (omega arith)

-- setting the order of a number that is in none
order-flagged : (o d : List Node) (x e : ℕ) (f g : Bool) (zs : List ℕ) → IsAbsent x zs → SetsOrder o d x g → IsOrder o e f zs → IsOrder d e f zs
order-flagged o d x e f g zs absent s h = record {
  ring = ap (steps (next_of d) (suc (length zs))) (s.next e) ∙ steps-same (next_of o) (next_of d) (suc (length zs)) (next_of o e) s.next ∙ h.ring;
  apart = h.apart;
  above = h.above;
  within = λ k q. rw s.len (h.within k q);
  flagged = λ k q. s.others k (λ is. absent (subst (λ t. IsAmong t zs) is q)) ∙ h.flagged k q;
}

pub mutual-same : (o d : List Node) → ((k : ℕ) → next_of d k ≡ next_of o k) → ((k : ℕ) → prev_of d k ≡ prev_of o k) → IsMutual o → IsMutual d
mutual-same o d next prev m = record {
  forth = λ k. prev (next_of d k) ∙ ap (prev_of o) (next k) ∙ m.forth k;
  back = λ k. next (prev_of d k) ∙ ap (next_of o) (prev k) ∙ m.back k;
}

pub ringed-flagged : (o d : List Node) (x : ℕ) (g : Bool) (xs ys : List ℕ) → IsAbsent x xs → IsAbsent x ys → SetsOrder o d x g → IsRinged o xs ys → IsRinged d xs ys
ringed-flagged o d x g xs ys ax ay s h = record {
  neighbours = mutual-same o d s.next s.prev h.neighbours;
  first = order-flagged o d x 0 true g xs ax s h.first;
  second = order-flagged o d x 1 false g ys ay s h.second;
  alone = λ k up a b. s.next k ∙ h.alone k up a b;
  few = rw s.len h.few;
}

-- a number is appended to an order
order-joined : (o d : List Node) (x e : ℕ) (f : Bool) (zs : List ℕ) → e < 2 → 2 ≤ x → x < length o → IsAbsent x zs → (node_at o x).is_admitted ≡ f → LinksBefore o d x e
    → IsOrder o e f zs → IsOrder d e f (zs ++ x ∷ [])
order-joined o d x e f zs end above within absent flag u h = record {
  ring = ring-path (next_of d) e e (zs ++ x ∷ [])
      (path-joined (next_of o) (next_of d) x e e zs u.forth u.others_forth u.next (λ q. omega arith) absent (λ q. let up = h.above e q in omega arith) (order_path h));
  apart = counted-apart (zs ++ x ∷ []) (apart-push x zs (apart-counted zs h.apart) absent);
  above = λ k q. ⊎_elim (λ t. h.above k t) (λ is. omega arith) (among-push k x zs q);
  within = λ k q. rw u.rest.len (⊎_elim (λ t. h.within k t) (λ is. omega arith) (among-push k x zs q));
  flagged = λ k q. u.rest.order k ∙ ⊎_elim (λ t. h.flagged k t) (λ is. ap (λ t. (node_at o t).is_admitted) (sym is) ∙ flag) (among-push k x zs q);
}

-- and the other order stays
order-other : (o d : List Node) (x e other : ℕ) (f : Bool) (zs : List ℕ) → e < 2 → other < 2 → e ≢ other → 2 ≤ x → IsAbsent x zs → LinksBefore o d x other → IsOrder o e f zs → IsOrder d e f zs
order-other o d x e other f zs end end' ne above absent u h = record {
  ring = ring-path (next_of d) e e zs
      (path-frame (next_of o) (next_of d) x other e e zs u.others_forth (λ q. omega arith) ne (λ q. let up = h.above other q in omega arith) absent (order_path h));
  apart = h.apart;
  above = h.above;
  within = λ k q. rw u.rest.len (h.within k q);
  flagged = λ k q. u.rest.order k ∙ h.flagged k q;
}

pub ringed-admitted : (o d : List Node) (x : ℕ) (xs ys : List ℕ) → 2 ≤ x → x < length o → IsAbsent x xs → IsAbsent x ys → (node_at o x).is_admitted ≡ true → LinksBefore o d x 0
    → IsRinged o xs ys → IsRinged d (xs ++ x ∷ []) ys
ringed-admitted o d x xs ys above within ax ay flag u h = record {
  neighbours = mutual-linked o d x 0 h.neighbours (h.alone x above ax ay) (λ q. omega arith) u;
  first = order-joined o d x 0 true xs (omega arith) above within ax flag u h.first;
  second = order-other o d x 1 0 false ys (omega arith) (omega arith) (λ q. omega arith) above ay u h.second;
  alone = λ k up a b.
      let was : next_of o k ≡ k = h.alone k up (λ q. a (among-front k xs (x ∷ []) q)) b in
      u.others_forth k (λ q. a (among-back k xs (x ∷ []) (inl (sym q)))) (λ q. omega arith) ∙ was;
  few = rw u.rest.len h.few;
}

pub ringed-waiting : (o d : List Node) (x : ℕ) (xs ys : List ℕ) → 2 ≤ x → x < length o → IsAbsent x xs → IsAbsent x ys → (node_at o x).is_admitted ≡ false → LinksBefore o d x 1
    → IsRinged o xs ys → IsRinged d xs (ys ++ x ∷ [])
ringed-waiting o d x xs ys above within ax ay flag u h = record {
  neighbours = mutual-linked o d x 1 h.neighbours (h.alone x above ax ay) (λ q. omega arith) u;
  first = order-other o d x 0 1 true xs (omega arith) (omega arith) (λ q. omega arith) above ax u h.first;
  second = order-joined o d x 1 false ys (omega arith) above within ay flag u h.second;
  alone = λ k up a b.
      let was : next_of o k ≡ k = h.alone k up a (λ q. b (among-front k ys (x ∷ []) q)) in
      u.others_forth k (λ q. b (among-back k ys (x ∷ []) (inl (sym q)))) (λ q. omega arith) ∙ was;
  few = rw u.rest.len h.few;
}

pub joined-admitted : (o b d : List Node) (x a w : ℕ) → IsRinged o (order o 0 a) (order o 1 w) → 2 ≤ x → x < length o → IsAbsent x (order o 0 a) → IsAbsent x (order o 1 w)
    → SetsOrder o b x true → LinksBefore b d x 0 → Moved d (order o 0 a ++ x ∷ []) (order o 1 w) (a + 1) w
joined-admitted o b d x a w h above within ax ay s u =
    let xs = order o 0 a in
    let ys = order o 1 w in
    let len = length-order o 0 a in
    let more : length (xs ++ x ∷ []) ≡ length xs + 1 = length-append xs (x ∷ []) in
    moved d (xs ++ x ∷ []) ys (a + 1) w
    (ringed-admitted b d x xs ys above (rw s.len within) ax ay s.changed u (ringed-flagged o b x true xs ys ax ay s h)) (omega arith) (sym (length-order o 1 w))

pub joined-waiting : (o b d : List Node) (x a w : ℕ) → IsRinged o (order o 0 a) (order o 1 w) → 2 ≤ x → x < length o → IsAbsent x (order o 0 a) → IsAbsent x (order o 1 w)
    → SetsOrder o b x false → LinksBefore b d x 1 → Moved d (order o 0 a) (order o 1 w ++ x ∷ []) a (w + 1)
joined-waiting o b d x a w h above within ax ay s u =
    let xs = order o 0 a in
    let ys = order o 1 w in
    let len = length-order o 1 w in
    let more : length (ys ++ x ∷ []) ≡ length ys + 1 = length-append ys (x ∷ []) in
    moved d xs (ys ++ x ∷ []) a (w + 1)
    (ringed-waiting b d x xs ys above (rw s.len within) ax ay s.changed u (ringed-flagged o b x false xs ys ax ay s h)) (sym (length-order o 0 a)) (omega arith)

-- a resident number moves after all others
pub moved-last : (o g : List Node) (x a w : ℕ) → IsRinged o (order o 0 a) (order o 1 w) → IsAmong x (order o 0 a) → Relinks o g x 0
    → Moved g (without x (order o 0 a) ++ x ∷ []) (without x (order o 1 w)) a w
moved-last o g x a w h there r =
    let xs = order o 0 a in
    let ys = order o 1 w in
    let above = h.first.above x there in
    let less = length-without x xs there in
    let len = length-order o 0 a in
    let more : length (without x xs ++ x ∷ []) ≡ length (without x xs) + 1 = length-append (without x xs) (x ∷ []) in
    let same : without x ys ≡ ys = without-absent x ys (λ q. not-both o xs ys x h there q) in
    moved g (without x xs ++ x ∷ []) (without x ys) a w
    (ringed-admitted r.between g x (without x xs) (without x ys) above (rw r.left.rest.len (h.first.within x there))
    (absent-without x xs (apart-counted xs h.first.apart)) (λ q. not-both o xs ys x h there (among-without x x ys q))
    (r.left.rest.order x ∙ h.first.flagged x there) r.joined (ringed-left o r.between x xs ys above r.left h))
    (omega arith) (rw same (sym (length-order o 1 w)))

-- each order has at most 2^32 numbers, so that one more can be counted
pub few-admitted : (o : List Node) (a w : ℕ) → IsRinged o (order o 0 a) (order o 1 w) → a ≤ 2 ^ 32
few-admitted o a w h = let few = few-ordered o 0 true (order o 0 a) h.first in let len = length-order o 0 a in omega (arith, h.few)

pub few-waiting : (o : List Node) (a w : ℕ) → IsRinged o (order o 0 a) (order o 1 w) → w ≤ 2 ^ 32
few-waiting o a w h = let few = few-ordered o 1 false (order o 1 w) h.second in let len = length-order o 1 w in omega (arith, h.few)

-- the order of a number, by the mark in its node
pub in-admitted : (xs ys : List ℕ) (k : ℕ) (said : Bool) → IsAmong k xs ⊎ IsAmong k ys → (IsAmong k ys → said ≡ false) → said ≡ true → IsAmong k xs
in-admitted xs ys k said stands waits is = ⊎_elim (λ q. q) (λ q. let both : true ≡ false = sym is ∙ waits q in absurd cc) stands

pub in-waiting : (xs ys : List ℕ) (k : ℕ) (said : Bool) → IsAmong k xs ⊎ IsAmong k ys → (IsAmong k xs → said ≡ true) → said ≡ false → IsAmong k ys
in-waiting xs ys k said stands admitted is = ⊎_elim (λ q. let both : true ≡ false = sym (admitted q) ∙ is in absurd cc) (λ q. q) stands

-- nodes with the same neighbours and orders
order-same : (o d : List Node) (e n : ℕ) → ((k : ℕ) → next_of d k ≡ next_of o k) → order d e n ≡ order o e n
order-same o d e n next = ap (steps (next_of d) n) (next e) ∙ steps-same (next_of o) (next_of d) n (next_of o e) next

order-stays : (o d : List Node) (e : ℕ) (f : Bool) (zs : List ℕ) → ((k : ℕ) → next_of d k ≡ next_of o k) → ((k : ℕ) → (node_at d k).is_admitted ≡ (node_at o k).is_admitted)
    → length o ≤ length d → IsOrder o e f zs → IsOrder d e f zs
order-stays o d e f zs next flags more h = record {
  ring = ap (steps (next_of d) (suc (length zs))) (next e) ∙ steps-same (next_of o) (next_of d) (suc (length zs)) (next_of o e) next ∙ h.ring;
  apart = h.apart;
  above = h.above;
  within = λ k q. let was = h.within k q in omega arith;
  flagged = λ k q. flags k ∙ h.flagged k q;
}

pub ringed-stays : (o d : List Node) (a w : ℕ) → ((k : ℕ) → next_of d k ≡ next_of o k) → ((k : ℕ) → prev_of d k ≡ prev_of o k)
    → ((k : ℕ) → (node_at d k).is_admitted ≡ (node_at o k).is_admitted) → length o ≤ length d → length d ≤ 2 ^ 32
    → IsRinged o (order o 0 a) (order o 1 w) → Moved d (order o 0 a) (order o 1 w) a w
ringed-stays o d a w next prev flags more few h =
    moved d (order o 0 a) (order o 1 w) a w
    (record {
      neighbours = mutual-same o d next prev h.neighbours;
      first = order-stays o d 0 true (order o 0 a) next flags more h.first;
      second = order-stays o d 1 false (order o 1 w) next flags more h.second;
      alone = λ k up x y. next k ∙ h.alone k up x y;
      few = few;
    }) (sym (length-order o 0 a)) (sym (length-order o 1 w))

-- the first number of an order, and the one after a number
pub ordered-first : (o : List Node) (e : ℕ) (f : Bool) (zs : List ℕ) → e < 2 → IsOrder o e f zs → row_of (next_of o e) ≡ first_of zs
ordered-first o e f zs end h = path-first (next_of o) e e zs end h.above (order_path h)

pub ordered-behind : (o : List Node) (e k : ℕ) (f : Bool) (zs : List ℕ) → e < 2 → IsOrder o e f zs → IsAmong k zs → row_of (next_of o k) ≡ number_behind k zs
ordered-behind o e k f zs end h q = path-behind (next_of o) e e k zs end h.above (order_path h) q
