-- R8: a message that has room finds a slot for each of its addresses, one after the other.
--     stands_present                who has an entry
--     put_free_own, put_free_new    the free slots after a change was put
--     put_found                     who has an entry then
--     newcomer_not, newcomer_one    one address of a message
--     newcomers_same                the newcomers to two tables, where the known ones make up for what differs
--     room_first, room_rest         the first address has its place, and the others have room behind it
-- Assumes nothing.
use Prim.Native.Nat.{ℕ, ◌+◌, ◌≤◌}
use mathlib.Core.Path.{◌≡◌, refl, sym, ap, ◌∙◌}
use mathlib.Core.Bool.{Bool, true, false, ◌||◌, or-false, or-true, or_assoc, false≢true}
use Rattle.std.specs.Prelude.{Option, Some, None}
use mathlib.Core.List.{List, [], ◌∷◌, ◌++◌}
use native.Mathlib.Omega.{arith}
use lib.ListN.{length}
use Rattle.octets.specs.Octets.{AllOctets, same_octets}
use Rattle.octets.specs.Options.{is_some}
use Rattle.octets.proofs.Comparing.{same_true}
use Rattle.octets.specs.Tests.{every}
use Rattle.octets.proofs.Tests.{and_left, and_right, by_test}
use Rattle.address.specs.Address.{canonical, is_canonical}
use Rattle.address.proofs.Spelling.{canonical_same}
use Rattle.addresslist.specs.List.{among}
use Rattle.heads.specs.Entry.{Entry, newcomer}
use Rattle.slots.specs.Entry.{entry_of}
use Rattle.heads.proofs.Goodness.{good_newcomer}
use Rattle.table.specs.Table.{slot_at, found, lowest_free, free_count, is_at, checked}
use Rattle.table.specs.Entries.{entry_in}
use Rattle.table.specs.declared.Checked.TheVariants.{Sound}
use Rattle.table.proofs.Finding.{found_at, found_used, free_at}
use Rattle.table.proofs.Replaced.{free_fewer, free_same}
use Rattle.table.proofs.Entries.{entry_at, entry_nothing}
use Rattle.table.proofs.Lowest.{by_found, some_free}
use Rattle.update.specs.Update.{begun, put}
use Rattle.update.specs.Message.{newcomers, entry_put}
use Rattle.update.proofs.Placing.{begun_own, begun_new, put_at, put_nothing}
use Rattle.update.proofs.Putting.{Keeps, has_place, changed_good, put_entry}

-- an address has an entry where it stands somewhere
pub stands_present : (t a : List ℕ) → is_at (found t a) ≡ is_some (entry_in t a)
unfolding is_some
stands_present t a = by_found (found t a) (λ i e. rw (e, entry_at t a i e)) (λ e. rw (e, entry_nothing t a e))

present_put : (a b : List ℕ) (change : Entry → Entry) (e : Option Entry) → is_some (entry_put a change b e) ≡ (is_some e || same_octets a b)
unfolding entry_put is_some
present_put a b change e =
    by_test (same_octets a b) (λ q. rw (entry_put, q) (sym (or-true (is_some e)))) (λ q. rw (entry_put, q) (sym (or-false (is_some e))))

module _ (t a : List ℕ) (c : is_canonical a ≡ true) (p : AllOctets a) (change : Entry → Entry) (k : Keeps change) (s : checked t ≡ Sound) (o : AllOctets t) where
  put_free : free_count (put t a change) ≡ free_count (begun t a)
  put_free =
      by_found (found (begun t a) a)
      (λ i f.
      rw (put_at t a change i f)
      (free_same (begun t a) i (found_at (begun t a) a i f).0 (change (entry_of (slot_at (begun t a) i))) (changed_good t a c p change k s o i f)
      (found_used (begun t a) a i f)))
      (λ f. rw (put_nothing t a change f))

  pub put_free_own : (i : ℕ) → found t a ≡ Some i → free_count (put t a change) ≡ free_count t
  put_free_own i e = put_free ∙ rw (begun_own t a i e)

  pub put_free_new : (i : ℕ) → found t a ≡ None → lowest_free t ≡ Some i → free_count t ≡ 1 + free_count (put t a change)
  put_free_new i e f =
      rw (put_free, begun_new t a e i f) (free_fewer t i (free_at t i f).0 (newcomer a) (good_newcomer a c p) (free_at t i f).1)

  pub put_found : has_place t a ≡ true → (b : List ℕ) → is_at (found (put t a change) b) ≡ (is_at (found t b) || same_octets a b)
  put_found h b =
      rw (stands_present (put t a change) b, stands_present t b, put_entry t a c p change k s o h b) (present_put a b change (entry_in t b))

among_one : (a b : List ℕ) → is_canonical a ≡ true → is_canonical b ≡ true → among b (a ∷ []) ≡ same_octets a b
unfolding among
among_one a b c d = rw (canonical_same a c, canonical_same b d) (or-false (same_octets a b))

among_append : (b : List ℕ) (x y : List (List ℕ)) → among b (x ++ y) ≡ (among b x || among b y)
unfolding among
among_append b [] y = refl
among_append b (a ∷ x) y = rw (among_append b x y) (sym (or_assoc (same_octets (canonical a) (canonical b)) (among b x) (among b y)))

-- one address of the list
module _ (t : List ℕ) (known : List (List ℕ)) (a : List ℕ) (rest : List (List ℕ)) where
  pub newcomer_not : (is_at (found t a) || among a known) ≡ true → newcomers t known (a ∷ rest) ≡ newcomers t known rest
  unfolding newcomers
  newcomer_not e = rw (newcomers, e)

  pub newcomer_one : (is_at (found t a) || among a known) ≡ false → newcomers t known (a ∷ rest) ≡ a ∷ newcomers t (known ++ (a ∷ [])) rest
  unfolding newcomers
  newcomer_one e = rw (newcomers, e)

-- x and y are whether an address stands in one table and the other; one more is known to both
more_known : (x y k j z : Bool) → (x || k) ≡ (y || j) → (x || (k || z)) ≡ (y || (j || z))
more_known x y k j z e = sym (or_assoc x k z) ∙ rw e (or_assoc y j z)

module _ (t u : List ℕ) where
  pub newcomers_same : (k j : List (List ℕ)) (those : List (List ℕ)) → every is_canonical those ≡ true
      → ((b : List ℕ) → is_canonical b ≡ true → (is_at (found t b) || among b k) ≡ (is_at (found u b) || among b j)) → newcomers t k those ≡ newcomers u j those
  unfolding newcomers every
  newcomers_same k j [] c same = refl
  newcomers_same k j (a ∷ those) c same =
      let ca : is_canonical a ≡ true = and_left (is_canonical a) (every is_canonical those) c in
      let cs : every is_canonical those ≡ true = and_right (is_canonical a) (every is_canonical those) c in
      by_test (is_at (found t a) || among a k)
      (λ h. newcomer_not t k a those h ∙ newcomers_same k j those cs same ∙ sym (newcomer_not u j a those (sym (same a ca) ∙ h)))
      (λ h.
      newcomer_one t k a those h
      ∙ ap (λ (l : List (List ℕ)). a ∷ l)
      (newcomers_same (k ++ (a ∷ [])) (j ++ (a ∷ [])) those cs
      (λ b d.
      rw (among_append b k (a ∷ []), among_append b j (a ∷ []))
      (more_known (is_at (found t b)) (is_at (found u b)) (among b k) (among b j) (among b (a ∷ [])) (same b d))))
      ∙ sym (newcomer_one u j a those (sym (same a ca) ∙ h)))

or_already : (x y : Bool) → (y ≡ true → x ≡ true) → (x || false) ≡ ((x || y) || false)
or_already true y h = refl
or_already false true h = h refl
or_already false false h = refl

module _ (t a : List ℕ) (rest : List (List ℕ)) (r : length (newcomers t [] (a ∷ rest)) ≤ free_count t) where
  -- an address that has no entry is a newcomer, and takes a slot
  module _ (e : found t a ≡ None) where
    one : newcomers t [] (a ∷ rest) ≡ a ∷ newcomers t (a ∷ []) rest
    unfolding among
    one = newcomer_one t [] a rest (rw e)

    one_more : 1 + length (newcomers t (a ∷ []) rest) ≤ free_count t
    one_more = let q : length (a ∷ newcomers t (a ∷ []) rest) ≤ free_count t = rw one at r in omega arith

  pub room_first : has_place t a ≡ true
  unfolding has_place
  room_first =
      by_found (found t a) (λ i e. rw e)
      (λ e. rw e (some_free t (omega (arith, one_more e))))

  module _ (c : is_canonical a ≡ true) (cs : every is_canonical rest ≡ true) (p : AllOctets a) (change : Entry → Entry) (k : Keeps change)
      (s : checked t ≡ Sound) (o : AllOctets t) where
    found_now : (b : List ℕ) → is_at (found (put t a change) b) ≡ (is_at (found t b) || same_octets a b)
    found_now b = put_found t a c p change k s o room_first b

    rest_own : (i : ℕ) → found t a ≡ Some i → newcomers t [] (a ∷ rest) ≡ newcomers (put t a change) [] rest
    unfolding among
    rest_own i e =
        newcomer_not t [] a rest (rw e)
        ∙ newcomers_same t (put t a change) [] [] rest cs
        (λ b d.
        rw (found_now b)
        (or_already (is_at (found t b)) (same_octets a b) (λ q. let x : a ≡ b = same_true a b q in rw (← x, e))))

    rest_new : newcomers t (a ∷ []) rest ≡ newcomers (put t a change) [] rest
    unfolding among
    rest_new =
        newcomers_same t (put t a change) (a ∷ []) [] rest cs
        (λ b d. rw (found_now b, among_one a b c d) (sym (or-false (is_at (found t b) || same_octets a b))))

    pub room_rest : length (newcomers (put t a change) [] rest) ≤ free_count (put t a change)
    room_rest =
        by_found (found t a)
        (λ i e. rw (← rest_own i e, put_free_own t a c p change k s o i e) r)
        (λ e.
        by_found (lowest_free t)
        (λ i f. omega (arith, one_more e, ap length rest_new, put_free_new t a c p change k s o i e f))
        (λ f. let h : is_at (lowest_free t) ≡ true = some_free t (omega (arith, one_more e)) in absurd (no_place f h)))
      where
        no_place : lowest_free t ≡ None → is_at (lowest_free t) ≡ true → ⊥
        no_place f h = false≢true (rw f at h)
