-- Laws of keys and of the open fragments of a key: equal keys are the same key, and what is kept or joined changes only its own key's list.
-- Assumes nothing.
use Prim.Native.Nat.{ℕ, suc, ◌+◌}
use mathlib.Core.Path.{◌≡◌, refl, sym, ap, ap₂, ◌∙◌}
use mathlib.Core.Bool.{Bool, true, false, not, ◌&&◌, ◌||◌, cond}
use mathlib.Core.List.{List, [], ◌∷◌, ◌++◌}
use mathlib.Core.Logic.{◌↔◌}
use native.Mathlib.Omega.{arith}
use lib.Dec.{eqb}
use borrow.Author.Tests.{eqb-true, eq-eqb}
use Rattle.number_tests.proofs.Tests.{true-false, both_true}
use Rattle.client_record.specs.declared.Flow.{Flow}
use Rattle.client_record.specs.Lists.{same_bytes, any}
use Rattle.client_record.specs.Record.{same_flow}
use Rattle.client_ledger.specs.Book.{Key, Content, Entry, same_key, of, mine, keep, others, opened_at, keys}

-- ---- keys

pub same_bytes_lem : (a b : List ℕ) → same_bytes a b ≡ true → a ≡ b
unfolding same_bytes
same_bytes_lem [] [] e = refl
same_bytes_lem [] (y ∷ b) e = cc
same_bytes_lem (x ∷ a) [] e = cc
same_bytes_lem (x ∷ a) (y ∷ b) e = let t = both_true (eqb x y) (same_bytes a b) e in ap₂ ◌∷◌ (eqb-true x y t.0) (same_bytes_lem a b t.1)

pub bytes_same : (a : List ℕ) → same_bytes a a ≡ true
unfolding same_bytes
bytes_same [] = refl
bytes_same (x ∷ a) = ap₂ ◌&&◌ (eq-eqb x x refl) (bytes_same a)

same_flow_lem : (x y : Flow) → same_flow x y ≡ true → x ≡ y
unfolding same_flow
same_flow_lem x y e =
    let ports : Bool = eqb x.source_port y.source_port && eqb x.destination_port y.destination_port in
    let one = both_true (same_bytes x.source y.source) (same_bytes x.destination y.destination && ports) e in
    let two = both_true (same_bytes x.destination y.destination) ports one.1 in
    let three = both_true (eqb x.source_port y.source_port) (eqb x.destination_port y.destination_port) two.1 in
    let s : x.source ≡ y.source = same_bytes_lem _ _ one.0 in
    let d : x.destination ≡ y.destination = same_bytes_lem _ _ two.0 in
    let p : x.source_port ≡ y.source_port = eqb-true _ _ three.0 in
    let q : x.destination_port ≡ y.destination_port = eqb-true _ _ three.1 in
    λ i. record { source = s i; destination = d i; source_port = p i; destination_port = q i }

pub same_key_lem : (k j : Key) → same_key k j ≡ true → k ≡ j
unfolding same_key
same_key_lem k j e =
    let t = both_true (same_flow k.flow j.flow) (eqb k.identification j.identification) e in
    let f : k.flow ≡ j.flow = same_flow_lem _ _ t.0 in
    let n : k.identification ≡ j.identification = eqb-true _ _ t.1 in
    λ i. record { flow = f i; identification = n i }

flow-same : (x : Flow) → same_flow x x ≡ true
unfolding same_flow
flow-same x =
    ap₂ ◌&&◌ (bytes_same x.source)
    (ap₂ ◌&&◌ (bytes_same x.destination)
    (ap₂ ◌&&◌ (eq-eqb x.source_port x.source_port refl) (eq-eqb x.destination_port x.destination_port refl)))

pub key-same : (k : Key) → same_key k k ≡ true
unfolding same_key
key-same k = ap₂ ◌&&◌ (flow-same k.flow) (eq-eqb k.identification k.identification refl)

-- the tests hold exactly of equal flows, and of equal keys; of the addresses nothing is asked
pub same-flow-exactly : (x y : Flow) → (same_flow x y ≡ true) ↔ (x ≡ y)
same-flow-exactly x y = (same_flow_lem x y, λ e. ap (same_flow x) (sym e) ∙ flow-same x)

pub same-key-exactly : (k j : Key) → (same_key k j ≡ true) ↔ (k ≡ j)
same-key-exactly k j = (same_key_lem k j, λ e. ap (same_key k) (sym e) ∙ key-same k)

pub own_key : (x : Entry) → of x.key x ≡ true
unfolding of
own_key x = key-same x.key

pub of-key : (k : Key) (x : Entry) → of k x ≡ true → k ≡ x.key
unfolding of
of-key k x m = same_key_lem k x.key m

of-differ : (k : Key) (x : Entry) → of k x ≡ false → same_key k x.key ≡ false
unfolding of
of-differ k x m = m

-- a key that differs from the first cannot be an entry's that the first has
pub apart : (k j : Key) (e : Entry) → same_key k j ≡ false → of j e ≡ true → of k e ≡ false
unfolding of
apart k j e d m = go (same_key k e.key) refl
  where
    go : (b : Bool) → same_key k e.key ≡ b → b ≡ false
    go true h = sym (sym d ∙ ap (same_key k) (same_key_lem j e.key m) ∙ h)
    go false h = refl

-- ---- what is kept, key by key

module _ (j : Key) (p : Entry → Bool) where
  -- every entry of the key is kept
  pub mine-kept : ((e : Entry) → of j e ≡ true → p e ≡ true) → (es : List Entry) → mine j (keep p es) ≡ mine j es
  unfolding mine keep
  mine-kept h [] = refl
  mine-kept h (e ∷ es) = go (of j e) (p e) refl refl (mine-kept h es)
    where
      go : (b c : Bool) → of j e ≡ b → p e ≡ c → mine j (keep p es) ≡ mine j es
          → mine j (cond c (e ∷ keep p es) (keep p es)) ≡ cond b (e.content ∷ mine j es) (mine j es)
      go true true m k ih = ap (λ (x : Bool). cond x (e.content ∷ mine j (keep p es)) (mine j (keep p es))) m ∙ ap (λ (l : List Content). e.content ∷ l) ih
      go true false m k ih = absurd (true-false (sym (h e m) ∙ k))
      go false true m k ih = ap (λ (x : Bool). cond x (e.content ∷ mine j (keep p es)) (mine j (keep p es))) m ∙ ih
      go false false m k ih = ih

  pub opened-kept : ((e : Entry) → of j e ≡ true → p e ≡ true) → (es : List Entry) → opened_at j (keep p es) ≡ opened_at j es
  unfolding opened_at keep
  opened-kept h [] = refl
  opened-kept h (e ∷ es) = go (of j e) (p e) refl refl (opened-kept h es)
    where
      go : (b c : Bool) → of j e ≡ b → p e ≡ c → opened_at j (keep p es) ≡ opened_at j es
          → opened_at j (cond c (e ∷ keep p es) (keep p es)) ≡ cond b e.time (opened_at j es)
      go true true m k ih = ap (λ (x : Bool). cond x e.time (opened_at j (keep p es))) m
      go true false m k ih = absurd (true-false (sym (h e m) ∙ k))
      go false true m k ih = ap (λ (x : Bool). cond x e.time (opened_at j (keep p es))) m ∙ ih
      go false false m k ih = ih

  -- no entry of the key is kept
  pub mine-dropped : ((e : Entry) → of j e ≡ true → p e ≡ false) → (es : List Entry) → mine j (keep p es) ≡ []
  unfolding mine keep
  mine-dropped h [] = refl
  mine-dropped h (e ∷ es) = go (of j e) (p e) refl refl (mine-dropped h es)
    where
      go : (b c : Bool) → of j e ≡ b → p e ≡ c → mine j (keep p es) ≡ [] → mine j (cond c (e ∷ keep p es) (keep p es)) ≡ []
      go true true m k ih = absurd (true-false (sym k ∙ h e m))
      go true false m k ih = ih
      go false true m k ih = ap (λ (x : Bool). cond x (e.content ∷ mine j (keep p es)) (mine j (keep p es))) m ∙ ih
      go false false m k ih = ih

  -- where the key had none, it has none of what is kept
  pub mine-none : (es : List Entry) → mine j es ≡ [] → mine j (keep p es) ≡ []
  unfolding mine keep
  mine-none [] e = refl
  mine-none (x ∷ es) e = go (of j x) (p x) refl refl (mine-none es) e
    where
      go : (b c : Bool) → of j x ≡ b → p x ≡ c → (mine j es ≡ [] → mine j (keep p es) ≡ [])
          → cond b (x.content ∷ mine j es) (mine j es) ≡ [] → mine j (cond c (x ∷ keep p es) (keep p es)) ≡ []
      go true c m k ih h = let z : ◌≡◌ {A = ℕ} 0 1 = cc in absurd (omega arith)
      go false true m k ih h = ap (λ (t : Bool). cond t (x.content ∷ mine j (keep p es)) (mine j (keep p es))) m ∙ ih h
      go false false m k ih h = ih h

-- the fragments of a key leave: that key has none, and every other key's stay
module _ (k : Key) (es : List Entry) where
  pub mine-left : mine k (others k es) ≡ []
  unfolding others
  mine-left = mine-dropped k (λ e. not (of k e)) (λ e m. ap not m) es

  pub mine-others : (j : Key) → same_key k j ≡ false → mine j (others k es) ≡ mine j es
  unfolding others
  mine-others j d = mine-kept j (λ e. not (of k e)) (λ e m. ap not (apart k j e d m)) es

  pub opened-others : (j : Key) → same_key k j ≡ false → opened_at j (others k es) ≡ opened_at j es
  unfolding others
  opened-others j d = opened-kept j (λ e. not (of k e)) (λ e m. ap not (apart k j e d m)) es

-- ---- an entry that joins

module _ (j : Key) (x : Entry) where
  pub mine-joined : (es : List Entry) → of j x ≡ true → mine j (es ++ x ∷ []) ≡ mine j es ++ x.content ∷ []
  unfolding mine
  mine-joined [] m = ap (λ (b : Bool). cond b (x.content ∷ []) []) m
  mine-joined (e ∷ es) m = go (of j e) (mine-joined es m)
    where
      go : (b : Bool) → mine j (es ++ x ∷ []) ≡ mine j es ++ x.content ∷ []
          → cond b (e.content ∷ mine j (es ++ x ∷ [])) (mine j (es ++ x ∷ [])) ≡ cond b (e.content ∷ mine j es) (mine j es) ++ x.content ∷ []
      go true h = ap (λ (l : List Content). e.content ∷ l) h
      go false h = h

  pub mine-other : (es : List Entry) → of j x ≡ false → mine j (es ++ x ∷ []) ≡ mine j es
  unfolding mine
  mine-other [] m = ap (λ (b : Bool). cond b (x.content ∷ []) []) m
  mine-other (e ∷ es) m = go (of j e) (mine-other es m)
    where
      go : (b : Bool) → mine j (es ++ x ∷ []) ≡ mine j es
          → cond b (e.content ∷ mine j (es ++ x ∷ [])) (mine j (es ++ x ∷ [])) ≡ cond b (e.content ∷ mine j es) (mine j es)
      go true h = ap (λ (l : List Content). e.content ∷ l) h
      go false h = h

  -- the first to come opens the assembly; a later one does not change that
  pub opened-first : (es : List Entry) → of j x ≡ true → mine j es ≡ [] → opened_at j (es ++ x ∷ []) ≡ x.time
  unfolding opened_at mine
  opened-first [] m e = ap (λ (b : Bool). cond b x.time 0) m
  opened-first (y ∷ es) m e = go (of j y) (opened-first es m) e
    where
      go : (b : Bool) → (mine j es ≡ [] → opened_at j (es ++ x ∷ []) ≡ x.time) → cond b (y.content ∷ mine j es) (mine j es) ≡ []
          → cond b y.time (opened_at j (es ++ x ∷ [])) ≡ x.time
      go true h n = let z : ◌≡◌ {A = ℕ} 0 1 = cc in absurd (omega arith)
      go false h n = h n

  pub opened-later : (es : List Entry) → (mine j es ≡ [] → ⊥) → opened_at j (es ++ x ∷ []) ≡ opened_at j es
  unfolding opened_at mine
  opened-later [] n = absurd (n refl)
  opened-later (y ∷ es) n = go (of j y) (opened-later es) n
    where
      go : (b : Bool) → ((mine j es ≡ [] → ⊥) → opened_at j (es ++ x ∷ []) ≡ opened_at j es) → (cond b (y.content ∷ mine j es) (mine j es) ≡ [] → ⊥)
          → cond b y.time (opened_at j (es ++ x ∷ [])) ≡ cond b y.time (opened_at j es)
      go true h k = refl
      go false h k = h k

  pub opened-other : (es : List Entry) → of j x ≡ false → opened_at j (es ++ x ∷ []) ≡ opened_at j es
  unfolding opened_at
  opened-other [] m = ap (λ (b : Bool). cond b x.time 0) m
  opened-other (y ∷ es) m = ap (λ (t : ℕ). cond (of j y) y.time t) (opened-other es m)

-- ---- a list of entries whose every key has no entry

pub no-entries : (es : List Entry) → ((k : Key) → mine k es ≡ []) → es ≡ []
unfolding mine
no-entries [] h = refl
no-entries (e ∷ es) h =
    let n : e.content ∷ mine e.key es ≡ [] = sym (ap (λ (b : Bool). cond b (e.content ∷ mine e.key es) (mine e.key es)) (own_key e)) ∙ h e.key in
    let z : ◌≡◌ {A = ℕ} 0 1 = cc in
    absurd (omega arith)

-- ---- how many keys are open

-- 1 if there are any
abbrev pub some : List Content → ℕ
some [] = 0
some (f ∷ fs) = 1

any-mine : (k : Key) (es : List Entry) → any (of k) es ≡ false → some (mine k es) ≡ 0
unfolding any mine
any-mine k [] e = refl
any-mine k (x ∷ es) e = go (of k x) (any-mine k es) e
  where
    go : (b : Bool) → (any (of k) es ≡ false → some (mine k es) ≡ 0) → b || any (of k) es ≡ false → some (cond b (x.content ∷ mine k es) (mine k es)) ≡ 0
    go true h e = absurd (true-false e)
    go false h e = h e

any-mine-one : (k : Key) (es : List Entry) → any (of k) es ≡ true → some (mine k es) ≡ 1
unfolding any mine
any-mine-one k [] e = absurd (true-false (sym e))
any-mine-one k (x ∷ es) e = go (of k x) (any-mine-one k es) e
  where
    go : (b : Bool) → (any (of k) es ≡ true → some (mine k es) ≡ 1) → b || any (of k) es ≡ true → some (cond b (x.content ∷ mine k es) (mine k es)) ≡ 1
    go true h e = refl
    go false h e = h e

any-others : (k j : Key) → same_key k j ≡ false → (es : List Entry) → any (of j) (others k es) ≡ any (of j) es
unfolding any others keep
any-others k j d [] = refl
any-others k j d (x ∷ es) = go (of k x) (of j x) refl refl (any-others k j d es)
  where
    go : (b c : Bool) → of k x ≡ b → of j x ≡ c → any (of j) (others k es) ≡ any (of j) es
        → any (of j) (cond (not b) (x ∷ others k es) (others k es)) ≡ c || any (of j) es
    go true true m n h = absurd (true-false (sym m ∙ apart k j x d n))
    go true false m n h = h
    go false c m n h = ap₂ ◌||◌ n h

-- the key counts once, where it is open
pub keys-split : (k : Key) (es : List Entry) → keys es ≡ some (mine k es) + keys (others k es)
unfolding keys others keep mine
keys-split k [] = refl
keys-split k (x ∷ es) = go (of k x) refl (keys-split k es)
  where
    own : of k x ≡ true → (b : Bool) → any (of x.key) es ≡ b → any (of k) es ≡ b
    own m b e = ap (λ (j : Key). any (of j) es) (of-key k x m) ∙ e

    one : (b : Bool) → any (of k) es ≡ b → keys es ≡ some (mine k es) + keys (others k es) → cond b (keys es) (suc (keys es)) ≡ 1 + keys (others k es)
    one true e h = omega (arith, any-mine-one k es e)
    one false e h = omega (arith, any-mine k es e)

    two : (b : Bool) → keys es ≡ some (mine k es) + keys (others k es)
        → cond b (keys es) (suc (keys es)) ≡ some (mine k es) + (cond b (keys (others k es)) (suc (keys (others k es))))
    two true h = h
    two false h = omega arith

    go : (b : Bool) → of k x ≡ b → keys es ≡ some (mine k es) + keys (others k es)
        → cond (any (of x.key) es) (keys es) (suc (keys es))
        ≡ some (cond b (x.content ∷ mine k es) (mine k es)) + keys (cond (not b) (x ∷ others k es) (others k es))
    go true m h = one (any (of x.key) es) (own m (any (of x.key) es) refl) h
    go false m h =
        two (any (of x.key) es) h
        ∙ ap (λ (b : Bool). some (mine k es) + (cond b (keys (others k es)) (suc (keys (others k es))))) (sym (any-others k x.key (of-differ k x m) es))
