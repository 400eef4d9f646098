-- Each hash has a chain of all its numbers, before and after a number comes or leaves.
use Rattle.std.proofs.Common.{◌≡◌, ◌≢◌, ℕ, ◌<◌, ◌≤◌, ◌==◌, if◌then◌else◌, List, [], ◌∷◌, ◌++◌, Option, Some, None, refl, sym, ap, subst, ◌∙◌, rules, inl, inr, ⊎_elim}
use Rattle.std.specs.Prelude.{◌⊎◌}
use Rattle.std.proofs.lemmas.Bool.{cases_eq, ne_eqb}
use Rattle.indexmap.specs.IndexMap.{IndexMap}
use Rattle.moka_index.specs.Paths.{IsAmong, IsAbsent, without, IsChain}
use Rattle.moka_index.specs.BucketHeads.{first_in}
use Rattle.moka_index.specs.Deques.{admitted_in, waiting_in, hash_in, same_in, places_in, Stands}
use Rattle.moka_index.specs.Chains.{IsChained, numbers_in, chain_in, IsIndexed}
use Rattle.moka_index.specs.Deques.{LeadsTo, chain_from}
use Rattle.moka_index.specs.declared.deques.Deques.{Deques}
use Rattle.moka_index.proofs.PathLemmas.{IsApart, apart-counted, counted-apart, among-counted, counted-among, among-without, among-others, apart-without, absent-without, without-absent, without-here, among-front, among-back, among-parts, few-below}
use Rattle.moka_index.proofs.ChainLemmas.{IsLine, chain-line, line-chase, line-chain, line-frame, line-passed, without-behind}
use Rattle.moka_index.proofs.DequeLemmas.{stands-within, stands-above}

-- each hash has a chain of all its numbers, with the links one by one
pub record Chained (same : ℕ → Option ℕ) (hash : ℕ → ℕ) (first : ℕ → Option ℕ) (numbers : List ℕ) (chain : ℕ → List ℕ) : Type 0 where
  pub line : (h : ℕ) → IsLine same (first h) (chain h)
  pub apart : (h : ℕ) → IsApart (chain h)
  pub members : (h k : ℕ) → IsAmong k (chain h) → IsAmong k numbers × (hash k ≡ h)
  pub covers : (k : ℕ) → IsAmong k numbers → IsAmong k (chain (hash k))

pub chained : (same : ℕ → Option ℕ) (hash : ℕ → ℕ) (first : ℕ → Option ℕ) (numbers : List ℕ) (chain : ℕ → List ℕ) → IsChained same hash first numbers chain → Chained same hash first numbers chain
chained same hash first numbers chain h = record {
  line = λ g. chain-line same (first g) (chain g) (h.linked g);
  apart = λ g. apart-counted (chain g) (h.apart g);
  members = λ g k q. let m = h.members g k q in (among-counted k numbers m.0, m.1);
  covers = λ k q. among-counted k (chain (hash k)) (h.covers k q);
}

is-chained : (same : ℕ → Option ℕ) (hash : ℕ → ℕ) (first : ℕ → Option ℕ) (numbers : List ℕ) (chain : ℕ → List ℕ) → Chained same hash first numbers chain → IsChained same hash first numbers chain
is-chained same hash first numbers chain h = record {
  linked = λ g. line-chain same (first g) (chain g) (h.line g);
  apart = λ g. counted-apart (chain g) (h.apart g);
  members = λ g k q. let m = h.members g k q in (counted-among k numbers m.0, m.1);
  covers = λ k q. counted-among k (chain (hash k)) (h.covers k q);
}

chained-same : (same : ℕ → Option ℕ) (hash : ℕ → ℕ) (first : ℕ → Option ℕ) (numbers : List ℕ) (chain chain' : ℕ → List ℕ) → ((h : ℕ) → chain' h ≡ chain h) → Chained same hash first numbers chain → Chained same hash first numbers chain'
chained-same same hash first numbers chain chain' is h = record {
  line = λ g. subst (IsLine same (first g)) (sym (is g)) (h.line g);
  apart = λ g. subst IsApart (sym (is g)) (h.apart g);
  members = λ g k q. h.members g k (subst (IsAmong k) (is g) q);
  covers = λ k q. subst (IsAmong k) (sym (is (hash k))) (h.covers k q);
}

-- a number is in one of the orders if and only if it is in the list of all numbers
pub stands-among : (o : Deques) (k : ℕ) → IsAmong k (numbers_in o) → Stands o k
stands-among o k q = among-parts k (admitted_in o) (waiting_in o) q

pub among-stands : (o : Deques) (k : ℕ) → Stands o k → IsAmong k (numbers_in o)
among-stands o k q = ⊎_elim (λ t. among-front k (admitted_in o) (waiting_in o) t) (λ t. among-back k (admitted_in o) (waiting_in o) t) q

pub number-within : (o : Deques) (k : ℕ) → Stands o k → k < places_in o
number-within o k q = stands-within o.nodes.items (admitted_in o) (waiting_in o) k o.ringed q

pub number-above : (o : Deques) (k : ℕ) → Stands o k → 2 ≤ k
number-above o k q = stands-above o.nodes.items (admitted_in o) (waiting_in o) k o.ringed q

module _ {S : Type 0} where
  pub chained-in : (o : Deques) (bucket_heads : IndexMap ℕ ℕ S) → IsIndexed o bucket_heads → Chained (same_in o) (hash_in o) (first_in bucket_heads) (numbers_in o) (chain_in o bucket_heads)
  chained-in o bucket_heads h = chained (same_in o) (hash_in o) (first_in bucket_heads) (numbers_in o) (chain_in o bucket_heads) h

  -- the chains of the numbers in the orders are those that the links form
  chain-is : (o : Deques) (bucket_heads : IndexMap ℕ ℕ S) (chain : ℕ → List ℕ) → Chained (same_in o) (hash_in o) (first_in bucket_heads) (numbers_in o) chain → (h : ℕ) → chain_in o bucket_heads h ≡ chain h
  chain-is o bucket_heads chain c h =
      let few = few-below (places_in o) (chain h) (c.apart h) (λ k q. number-within o k (stands-among o k (c.members h k q).0)) in
      line-chase (same_in o) (places_in o) (first_in bucket_heads h) (chain h) few (c.line h)

  pub indexed : (o : Deques) (bucket_heads : IndexMap ℕ ℕ S) (chain : ℕ → List ℕ) → Chained (same_in o) (hash_in o) (first_in bucket_heads) (numbers_in o) chain → IsIndexed o bucket_heads
  indexed o bucket_heads chain c =
      is-chained (same_in o) (hash_in o) (first_in bucket_heads) (numbers_in o) (chain_in o bucket_heads)
      (chained-same (same_in o) (hash_in o) (first_in bucket_heads) (numbers_in o) chain (chain_in o bucket_heads) (chain-is o bucket_heads chain c) c)

module _ (same : ℕ → Option ℕ) (hash : ℕ → ℕ) (first : ℕ → Option ℕ) (numbers : List ℕ) (chain : ℕ → List ℕ) (c : Chained same hash first numbers chain) where
  elsewhere : (n h : ℕ) → h ≢ hash n → IsAbsent n (chain h)
  elsewhere n h ne q = ne (sym (c.members h n q).1)

  -- a hash without a first number has none
  pub no-first : (h k : ℕ) → first h ≡ None → IsAbsent k (chain h)
  no-first h k none q = go (chain h) (c.line h) q
    where
      go : (ks : List ℕ) → IsLine same (first h) ks → IsAmong k ks → ⊥
      go [] line q = q
      go (x ∷ xs) line q = let both : None ≡ Some x = sym none ∙ line.0 in cc

  -- the first number of a hash is one of its numbers
  pub first-among : (h k : ℕ) → first h ≡ Some k → IsAmong k (chain h)
  first-among h k some = go (chain h) (c.line h)
    where
      go : (ks : List ℕ) → IsLine same (first h) ks → IsAmong k ks
      go [] line = let both : None ≡ Some k = sym line ∙ some in absurd cc
      go (x ∷ xs) line = let both : Some x ≡ Some k = sym line.0 ∙ some in inl cc

  -- a number that is not the first of its chain is unlinked from it
  pub unchained-behind : (same' : ℕ → Option ℕ) (n p : ℕ) (front back : List ℕ) → chain (hash n) ≡ front ++ p ∷ n ∷ back → same' p ≡ same n → ((k : ℕ) → k ≢ p → same' k ≡ same k)
      → (h : ℕ) → IsChain same' (first h) (without n (chain h))
  unchained-behind same' n p front back is past others h = line-chain same' (first h) (without n (chain h)) (⊎_elim (λ e. here e) (λ ne. there ne) (cases_eq h (hash n)))
    where
      apart : IsApart (front ++ p ∷ n ∷ back)
      apart = subst IsApart is (c.apart (hash n))

      here : h ≡ hash n → IsLine same' (first h) (without n (chain h))
      here e =
          let whole : chain h ≡ front ++ p ∷ n ∷ back = ap chain e ∙ is in
          subst (IsLine same' (first h)) (sym (ap (without n) whole ∙ without-behind front back p n apart))
          (line-passed same same' (first h) front back p n past others apart (subst (IsLine same (first h)) whole (c.line h)))

      leads : hash p ≡ hash n
      leads = (c.members (hash n) p (subst (IsAmong p) (sym is) (among-back p front (p ∷ n ∷ back) (inl refl)))).1

      there : h ≢ hash n → IsLine same' (first h) (without n (chain h))
      there ne =
          subst (IsLine same' (first h)) (sym (without-absent n (chain h) (elsewhere n h ne)))
          (line-frame same same' (first h) (chain h) (λ k q. others k (λ e. ne (sym (c.members h k q).1 ∙ ap hash e ∙ leads))) (c.line h))

  -- the first number of a chain is removed
  pub unchained-first : (first' : ℕ → Option ℕ) (n : ℕ) → first (hash n) ≡ Some n → first' (hash n) ≡ same n → ((h : ℕ) → h ≢ hash n → first' h ≡ first h)
      → (h : ℕ) → IsChain same (first' h) (without n (chain h))
  unchained-first first' n was is others h = line-chain same (first' h) (without n (chain h)) (⊎_elim (λ e. here e) (λ ne. there ne) (cases_eq h (hash n)))
    where
      go : (ks : List ℕ) → IsLine same (first (hash n)) ks → IsLine same (first' (hash n)) (without n ks)
      go [] line = let both : None ≡ Some n = sym line ∙ was in absurd cc
      go (x ∷ xs) line =
          let both : Some x ≡ Some n = sym line.0 ∙ was in
          let e : x ≡ n = cc in
          subst (IsLine same (first' (hash n))) (sym (without-here n x xs e)) (subst (λ t. IsLine same t xs) (sym is) (subst (λ t. IsLine same (same t) xs) e line.1))

      here : h ≡ hash n → IsLine same (first' h) (without n (chain h))
      here e = subst (λ t. IsLine same (first' t) (without n (chain t))) (sym e) (go (chain (hash n)) (c.line (hash n)))

      there : h ≢ hash n → IsLine same (first' h) (without n (chain h))
      there ne = subst (IsLine same (first' h)) (sym (without-absent n (chain h) (elsewhere n h ne))) (subst (λ t. IsLine same t (chain h)) (sym (others h ne)) (c.line h))

  -- after a number was removed from its chain and from its order
  pub chained-left : (same' : ℕ → Option ℕ) (hash' : ℕ → ℕ) (first' : ℕ → Option ℕ) (numbers' : List ℕ) (n : ℕ) → ((h : ℕ) → IsChain same' (first' h) (without n (chain h))) → ((k : ℕ) → hash' k ≡ hash k)
      → ((k : ℕ) → IsAmong k numbers' → IsAmong k numbers × (k ≢ n)) → ((k : ℕ) → IsAmong k numbers → k ≢ n → IsAmong k numbers')
      → Chained same' hash' first' numbers' (λ h. without n (chain h))
  chained-left same' hash' first' numbers' n linked hashes fewer rest = record {
    line = λ h. chain-line same' (first' h) (without n (chain h)) (linked h);
    apart = λ h. apart-without n (chain h) (c.apart h);
    members = λ h k q.
        let m = c.members h k (among-without n k (chain h) q) in
        (rest k m.0 (λ e. absent-without n (chain h) (c.apart h) (subst (λ t. IsAmong t (without n (chain h))) e q)), hashes k ∙ m.1);
    covers = λ k q.
        let f = fewer k q in
        subst (λ t. IsAmong k (without n (chain t))) (sym (hashes k)) (among-others n k (chain (hash k)) f.1 (c.covers k f.0));
  }

  -- the same numbers in other orders
  pub chained-moved : (same' : ℕ → Option ℕ) (hash' : ℕ → ℕ) (first' : ℕ → Option ℕ) (numbers' : List ℕ) → ((k : ℕ) → same' k ≡ same k) → ((k : ℕ) → hash' k ≡ hash k)
      → ((h : ℕ) → first' h ≡ first h) → ((k : ℕ) → IsAmong k numbers' → IsAmong k numbers) → ((k : ℕ) → IsAmong k numbers → IsAmong k numbers')
      → Chained same' hash' first' numbers' chain
  chained-moved same' hash' first' numbers' sames hashes bucket_heads fewer more = record {
    line = λ h. subst (λ t. IsLine same' t (chain h)) (sym (bucket_heads h)) (line-frame same same' (first h) (chain h) (λ k q. sames k) (c.line h));
    apart = c.apart;
    members = λ h k q. let m = c.members h k q in (more k m.0, hashes k ∙ m.1);
    covers = λ k q. subst (λ t. IsAmong k (chain t)) (sym (hashes k)) (c.covers k (fewer k q));
  }

  -- one more number, before all others of its hash
  abbrev pub chain_with : ℕ → ℕ → ℕ → List ℕ
  chain_with n hn h = if h == hn then n ∷ chain h else chain h

  with-here : (n hn h : ℕ) → h ≡ hn → chain_with n hn h ≡ n ∷ chain h
  with-here n hn h e = search (rules, e)

  with-there : (n hn h : ℕ) → h ≢ hn → chain_with n hn h ≡ chain h
  with-there n hn h ne = rw (ne_eqb h hn ne) refl

  pub chained-came : (same' : ℕ → Option ℕ) (hash' : ℕ → ℕ) (first' : ℕ → Option ℕ) (numbers' : List ℕ) (n hn : ℕ) → IsAbsent n numbers
      → same' n ≡ first hn → ((k : ℕ) → k ≢ n → same' k ≡ same k) → hash' n ≡ hn → ((k : ℕ) → k ≢ n → hash' k ≡ hash k)
      → first' hn ≡ Some n → ((h : ℕ) → h ≢ hn → first' h ≡ first h)
      → ((k : ℕ) → IsAmong k numbers' → IsAmong k numbers ⊎ (n ≡ k)) → ((k : ℕ) → IsAmong k numbers ⊎ (n ≡ k) → IsAmong k numbers')
      → Chained same' hash' first' numbers' (chain_with n hn)
  chained-came same' hash' first' numbers' n hn absent leads sames hashed hashes is others fewer more = record {
    line = λ h. ⊎_elim (λ e. line-here h e) (λ ne. line-there h ne) (cases_eq h hn);
    apart = λ h. ⊎_elim (λ e. subst IsApart (sym (with-here n hn h e)) (new h, c.apart h)) (λ ne. subst IsApart (sym (with-there n hn h ne)) (c.apart h)) (cases_eq h hn);
    members = λ h k q.
        ⊎_elim
        (λ e. ⊎_elim (λ t. (more k (inr t), ap hash' (sym t) ∙ hashed ∙ sym e)) (λ t. kept h k t) (subst (IsAmong k) (with-here n hn h e) q))
        (λ ne. kept h k (subst (IsAmong k) (with-there n hn h ne) q)) (cases_eq h hn);
    covers = λ k q. ⊎_elim (λ t. old k t) (λ e. fresh k e) (fewer k q);
  }
    where
      new : (h : ℕ) → IsAbsent n (chain h)
      new h q = absent (c.members h n q).0

      same-there : (h : ℕ) → IsLine same' (first h) (chain h)
      same-there h = line-frame same same' (first h) (chain h) (λ k q. sames k (λ e. new h (subst (λ t. IsAmong t (chain h)) e q))) (c.line h)

      line-here : (h : ℕ) → h ≡ hn → IsLine same' (first' h) (chain_with n hn h)
      line-here h e = subst (IsLine same' (first' h)) (sym (with-here n hn h e)) (ap first' e ∙ is, subst (λ t. IsLine same' t (chain h)) (sym (leads ∙ ap first (sym e))) (same-there h))

      line-there : (h : ℕ) → h ≢ hn → IsLine same' (first' h) (chain_with n hn h)
      line-there h ne = subst (IsLine same' (first' h)) (sym (with-there n hn h ne)) (subst (λ t. IsLine same' t (chain h)) (sym (others h ne)) (same-there h))

      kept : (h k : ℕ) → IsAmong k (chain h) → IsAmong k numbers' × (hash' k ≡ h)
      kept h k q = let m = c.members h k q in (more k (inl m.0), hashes k (λ e. new h (subst (λ t. IsAmong t (chain h)) e q)) ∙ m.1)

      with-more : (h k : ℕ) → IsAmong k (chain h) → IsAmong k (chain_with n hn h)
      with-more h k q = ⊎_elim (λ e. subst (IsAmong k) (sym (with-here n hn h e)) (inr q)) (λ ne. subst (IsAmong k) (sym (with-there n hn h ne)) q) (cases_eq h hn)

      old : (k : ℕ) → IsAmong k numbers → IsAmong k (chain_with n hn (hash' k))
      old k q =
          let was : hash' k ≡ hash k = hashes k (λ e. absent (subst (λ t. IsAmong t numbers) e q)) in
          subst (λ t. IsAmong k (chain_with n hn t)) (sym was) (with-more (hash k) k (c.covers k q))

      fresh : (k : ℕ) → n ≡ k → IsAmong k (chain_with n hn (hash' k))
      fresh k e =
          let h : hash' k ≡ hn = ap hash' (sym e) ∙ hashed in
          subst (IsAmong k) (sym (with-here n hn (hash' k) h)) (inl e)

-- what `unchain` sees: the number's chain, and its first number
module _ {S : Type 0} (o : Deques) (bucket_heads : IndexMap ℕ ℕ S) (n : ℕ) (stands : Stands o n) (i : IsIndexed o bucket_heads) where
  c : Chained (same_in o) (hash_in o) (first_in bucket_heads) (numbers_in o) (chain_in o bucket_heads)
  c = chained-in o bucket_heads i

  pub has-first : (hash : ℕ) → hash ≡ hash_in o n → None ≡ first_in bucket_heads hash → ⊥
  has-first hash is none =
      no-first (same_in o) (hash_in o) (first_in bucket_heads) (numbers_in o) (chain_in o bucket_heads) c (hash_in o n) n (sym (none ∙ ap (first_in bucket_heads) is))
      (c.covers n (among-stands o n stands))

  -- its first number
  module _ (hash first : ℕ) (is : hash ≡ hash_in o n) (some : Some first ≡ first_in bucket_heads hash) where
    chain : chain_from o (Some first) ≡ chain_in o bucket_heads (hash_in o n)
    chain = ap (chain_from o) (some ∙ ap (first_in bucket_heads) is)

    pub within-places : (k : ℕ) → IsAmong k (chain_from o (Some first)) → k < places_in o
    within-places k q = number-within o k (stands-among o k (c.members (hash_in o n) k (subst (IsAmong k) chain q)).0)

    pub within-chain : IsAmong n (chain_from o (Some first))
    within-chain = subst (IsAmong n) (sym chain) (c.covers n (among-stands o n stands))

    -- it is not the first one, but after another
    module _ (before : ℕ) (leads : LeadsTo (chain_from o (Some first)) before n) where
      pub before-hash : hash_in o before ≡ hash
      before-hash =
          (c.members (hash_in o n) before (subst (IsAmong before) (sym leads.is ∙ chain) (among-back before leads.front (before ∷ n ∷ leads.back) (inl refl)))).1 ∙ sym is

      pub before-within : before < places_in o
      before-within = within-places before (subst (IsAmong before) (sym leads.is) (among-back before leads.front (before ∷ n ∷ leads.back) (inl refl)))

      pub passed-by : (same' : ℕ → Option ℕ) → same' before ≡ same_in o n → ((k : ℕ) → k ≢ before → same' k ≡ same_in o k)
          → (h : ℕ) → IsChain same' (first_in bucket_heads h) (without n (chain_in o bucket_heads h))
      passed-by same' past others =
          unchained-behind (same_in o) (hash_in o) (first_in bucket_heads) (numbers_in o) (chain_in o bucket_heads) c same' n before leads.front leads.back (sym chain ∙ leads.is) past others

    -- it is the first one
    pub dropped : (first' : ℕ → Option ℕ) → first ≡ n → first' hash ≡ same_in o n → ((h : ℕ) → h ≢ hash → first' h ≡ first_in bucket_heads h)
        → (h : ℕ) → IsChain (same_in o) (first' h) (without n (chain_in o bucket_heads h))
    dropped first' here leads others =
        unchained-first (same_in o) (hash_in o) (first_in bucket_heads) (numbers_in o) (chain_in o bucket_heads) c first' n
        (ap (first_in bucket_heads) (sym is) ∙ sym some ∙ ap Some here) (ap first' (sym is) ∙ leads) (λ h ne. others h (λ e. ne (e ∙ is)))
