-- Each fate of a fragment does in the record what it does in the book, provided that the record test passes again (`Rattle.reassembly`
-- proves that it does after every call): refused for want of room, repeated, a conflict, refused as one too many, stored, delivered.
-- Assumes nothing.
use Prim.Native.Nat.{ℕ, ◌+◌, ◌<◌, ◌≤◌}
use mathlib.Core.Path.{◌≡◌, refl, sym, ap, ap₂, ◌∙◌, subst}
use mathlib.Core.Bool.{Bool, true, false, ◌&&◌, cond}
use mathlib.Core.List.{List, [], ◌∷◌, ◌++◌, map}
use native.Mathlib.Omega.{arith}
use lib.ListN.{length, drop, set, length-set}
use borrow.Author.Tests.{eqb-false, leb-true}
use Rattle.number_octets.specs.Octets.{part, overlay}
use Rattle.number_octets.proofs.Laws.{length-overlay, length_part}
use Rattle.client_record.specs.declared.Fragment.{Fragment}
use Rattle.client_record.specs.declared.Assembly.{Assembly}
use Rattle.client_record.specs.declared.Client.{Client}
use Rattle.client_record.specs.Limits.{datagram_limit, fragment_limit, assembly_limit, share_size}
use Rattle.client_record.specs.Lists.{all}
use Rattle.client_record.specs.Record.{fresh_assembly, is_last, end, fits, covered_to, last_of, live, held_fragments, bytes_held, sound_record}
use Rattle.client_record.proofs.Lists.{all_append}
use Rattle.client_reassembly.specs.declared.Arrival.{Arrival}
use Rattle.client_reassembly.specs.Answer.{stored, delivered}
use Rattle.client_reassembly.specs.Shapes.{slotted}
use Rattle.client_reassembly.specs.Offer
use Rattle.client_reassembly.specs.Offer.{Outcome, fragment_of, added, base, start_of}
use Rattle.client_reassembly.proofs.Joins.{held-added}
use Rattle.client_reassembly.proofs.Kept.{all_set}
use Rattle.client_reassembly.proofs.Lasting.{slots-of, fresh-slotted, added-slotted}
use Rattle.client_reassembly.proofs.Stored.{added-live}
use Rattle.client_ledger.specs.Book
use Rattle.client_ledger.specs.Book.{Content, Entry, Book, size, total, end_of, held, mine, complete, bytes_to, Result, with, entry}
use Rattle.client_ledger.specs.Stands.{key_of, content_of, Agrees, Shaped, Stands, offer_of, Fulfils}
use Rattle.client_ledger.proofs.Agreement.{content-bytes}
use Rattle.client_ledger.proofs.Changes.{Unmoved, unmoved-laid, freed-agrees, stored-agrees, joined-content, room}
use Rattle.client_ledger.proofs.Clock.{held-stands}
use Rattle.client_ledger.proofs.Delivery.{last_fits, bytes-there}
use Rattle.client_ledger.proofs.Home.{Home, below}
use Rattle.client_ledger.proofs.Tests.{same_end, same-cover}

-- ---- figures only

module _ (c : Client) (share : List ℕ) (b : Book) (st : Stands c share b) (n : ℕ) where
  pub rejecting-stands : sound_record (Offer.rejecting n c) ≡ true → Stands (Offer.rejecting n c) share (Book.rejecting n b)
  unfolding Offer.rejecting Book.rejecting held
  rejecting-stands s = record {
    shape = record {
      lists = record { places = st.shape.lists.places; slots = st.shape.lists.slots; plan = st.shape.lists.plan };
      size = st.shape.size;
    };
    sound = s;
    plan = st.plan;
    time = st.time;
    offered = ap (λ (x : ℕ). x + n) st.offered;
    held_bytes = st.held_bytes;
    delivered = st.delivered;
    expired = st.expired;
    conflicted = st.conflicted;
    repeated = st.repeated;
    rejected = ap (λ (x : ℕ). x + n) st.rejected;
    agrees = st.agrees;
  }

  pub repeating-stands : sound_record (Offer.repeating n c) ≡ true → Stands (Offer.repeating n c) share (Book.repeating n b)
  unfolding Offer.repeating Book.repeating held
  repeating-stands s = record {
    shape = record {
      lists = record { places = st.shape.lists.places; slots = st.shape.lists.slots; plan = st.shape.lists.plan };
      size = st.shape.size;
    };
    sound = s;
    plan = st.plan;
    time = st.time;
    offered = ap (λ (x : ℕ). x + n) st.offered;
    held_bytes = st.held_bytes;
    delivered = st.delivered;
    expired = st.expired;
    conflicted = st.conflicted;
    repeated = ap (λ (x : ℕ). x + n) st.repeated;
    rejected = st.rejected;
    agrees = st.agrees;
  }

-- ---- the home changes

module _ (c : Client) (share : List ℕ) (b : Book) (st : Stands c share b) (e : Entry) (p : ℕ) (a : Assembly) (at_home : Home c share b e p a) where
  home-bytes : bytes_held a ≡ total (mine e.key b.open_ones)
  unfolding bytes_held
  home-bytes =
      sym (ap total at_home.fragments ∙ content-bytes share p st.shape.size at_home.inside (held_fragments a) at_home.fitting)

  set-places : (x : Assembly) → length (set c.assemblies p x) ≡ assembly_limit
  set-places x = length-set c.assemblies p x ∙ st.shape.lists.places

  set-slots : (x : Assembly) → slotted x ≡ true → all slotted (set c.assemblies p x) ≡ true
  set-slots x h = all_set slotted c.assemblies p x st.shape.lists.slots h

  module _ (s' : List ℕ) (type_size : length s' ≡ share_size c.plan) (stay : Unmoved s' share p) (n : ℕ) where
    conflicting-shaped : Shaped (Offer.conflicting p a n c) s'
    unfolding Offer.conflicting
    conflicting-shaped = record {
      lists = record { places = set-places fresh_assembly; slots = set-slots fresh_assembly fresh-slotted; plan = st.shape.lists.plan };
      size = type_size;
    }

    conflicting-agrees : Agrees s' (Book.conflicting e.key n b).open_ones (Offer.conflicting p a n c).assemblies
    unfolding Offer.conflicting Book.conflicting
    conflicting-agrees = freed-agrees c share b st e p a at_home s' stay

    conflicting-rest : sound_record (Offer.conflicting p a n c) ≡ true → (Offer.conflicting p a n c).held ≡ held (Book.conflicting e.key n b)
        → Stands (Offer.conflicting p a n c) s' (Book.conflicting e.key n b)
    unfolding Offer.conflicting Book.conflicting
    conflicting-rest s same = record {
      shape = conflicting-shaped;
      sound = s;
      plan = st.plan;
      time = st.time;
      offered = ap (λ (x : ℕ). x + n) st.offered;
      held_bytes = same;
      delivered = st.delivered;
      expired = st.expired;
      conflicted = ap₂ (λ (x y : ℕ). x + (y + n)) st.conflicted home-bytes;
      repeated = st.repeated;
      rejected = st.rejected;
      agrees = conflicting-agrees;
    }

    pub conflicting-stands : sound_record (Offer.conflicting p a n c) ≡ true → Stands (Offer.conflicting p a n c) s' (Book.conflicting e.key n b)
    unfolding held
    conflicting-stands s =
        conflicting-rest s
        (held-stands (Offer.conflicting p a n c) s' (Book.conflicting e.key n b).open_ones conflicting-shaped s conflicting-agrees)

    delivering-shaped : Shaped (Offer.delivering p a n c) s'
    unfolding Offer.delivering
    delivering-shaped = record {
      lists = record { places = set-places fresh_assembly; slots = set-slots fresh_assembly fresh-slotted; plan = st.shape.lists.plan };
      size = type_size;
    }

    delivering-agrees : Agrees s' (Book.delivering e.key n b).open_ones (Offer.delivering p a n c).assemblies
    unfolding Offer.delivering Book.delivering
    delivering-agrees = freed-agrees c share b st e p a at_home s' stay

    delivering-rest : sound_record (Offer.delivering p a n c) ≡ true → (Offer.delivering p a n c).held ≡ held (Book.delivering e.key n b)
        → Stands (Offer.delivering p a n c) s' (Book.delivering e.key n b)
    unfolding Offer.delivering Book.delivering
    delivering-rest s same = record {
      shape = delivering-shaped;
      sound = s;
      plan = st.plan;
      time = st.time;
      offered = ap (λ (x : ℕ). x + n) st.offered;
      held_bytes = same;
      delivered = ap₂ (λ (x y : ℕ). x + (y + n)) st.delivered home-bytes;
      expired = st.expired;
      conflicted = st.conflicted;
      repeated = st.repeated;
      rejected = st.rejected;
      agrees = delivering-agrees;
    }

    delivering-stands : sound_record (Offer.delivering p a n c) ≡ true → Stands (Offer.delivering p a n c) s' (Book.delivering e.key n b)
    unfolding held
    delivering-stands s =
        delivering-rest s
        (held-stands (Offer.delivering p a n c) s' (Book.delivering e.key n b).open_ones delivering-shaped s delivering-agrees)

    -- a' is the assembly with the fragment
    module _ (a' : Assembly) (same-key-of : key_of a' ≡ e.key) (is_live : live a' ≡ true) (same-opened : a'.opened ≡ a.opened)
        (slots : slotted a' ≡ true) (joins : mine e.key b.open_ones ++ e.content ∷ [] ≡ map (content_of s' p) (held_fragments a'))
        (size_is : n ≡ size e.content) where
      storing-shaped : Shaped (Offer.storing p a' n c) s'
      unfolding Offer.storing
      storing-shaped = record {
        lists = record { places = set-places a'; slots = set-slots a' slots; plan = st.shape.lists.plan };
        size = type_size;
      }

      storing-agrees : Agrees s' (Book.storing e b).open_ones (Offer.storing p a' n c).assemblies
      unfolding Offer.storing Book.storing
      storing-agrees = stored-agrees c share b st e p a at_home s' stay a' same-key-of is_live same-opened joins

      storing-rest : sound_record (Offer.storing p a' n c) ≡ true → (Offer.storing p a' n c).held ≡ held (Book.storing e b)
          → Stands (Offer.storing p a' n c) s' (Book.storing e b)
      unfolding Offer.storing Book.storing
      storing-rest s same = record {
        shape = storing-shaped;
        sound = s;
        plan = st.plan;
        time = st.time;
        offered = ap₂ ◌+◌ st.offered size_is;
        held_bytes = same;
        delivered = st.delivered;
        expired = st.expired;
        conflicted = st.conflicted;
        repeated = st.repeated;
        rejected = st.rejected;
        agrees = storing-agrees;
      }

      storing-stands : sound_record (Offer.storing p a' n c) ≡ true → Stands (Offer.storing p a' n c) s' (Book.storing e b)
      unfolding held
      storing-stands s =
          storing-rest s (held-stands (Offer.storing p a' n c) s' (Book.storing e b).open_ones storing-shaped s storing-agrees)

-- ---- one fate after the other

-- what is owed of an outcome is owed of one that equals it
pub fulfil-of : (o o' : Outcome) (r r' : Result) → o ≡ o' → r ≡ r' → sound_record o.client ≡ true
    → (sound_record o'.client ≡ true → Fulfils o' r') → Fulfils o r
fulfil-of o o' r r' p q s f =
    subst (λ (x : Outcome). Fulfils x r) (sym p)
    (subst (λ (x : Result). Fulfils o' x) (sym q) (f (subst (λ (x : Outcome). sound_record x.client ≡ true) p s)))

-- the assembly with the fragment
added-key : (a : Assembly) (f : Fragment) → key_of (added a f) ≡ key_of a
unfolding key_of added
added-key a f = refl

added-opened : (a : Assembly) (f : Fragment) → (added a f).opened ≡ a.opened
unfolding added
added-opened a f = refl

-- the fragment as the record has it, the entry as the book has it, and the share with its bytes
abbrev pub held-as : Arrival → List ℕ → Fragment
held-as o bytes = fragment_of o (length bytes)

abbrev pub entered-as : Arrival → List ℕ → Entry
entered-as o bytes = entry (offer_of o bytes)

abbrev pub laid : List ℕ → ℕ → Arrival → List ℕ → List ℕ
laid share p o bytes = overlay share (start_of p (fragment_of o (length bytes))) bytes

last-start : (share : List ℕ) (p : ℕ) (g : Fragment) → is_last g ≡ true → g.option_start ≡ (content_of share p g).start
unfolding content_of
last-start share p g t = sym (ap (λ (x : Bool). cond x g.option_start 0) t)

pub new-length : (o : Arrival) (bytes : List ℕ) → (held-as o bytes).length ≡ length bytes
unfolding fragment_of
new-length o bytes = refl

pub new-size : (o : Arrival) (bytes : List ℕ) → length bytes ≡ size (entered-as o bytes).content
unfolding size entry offer_of
new-size o bytes = refl

module _ (c : Client) (share : List ℕ) (b : Book) (st : Stands c share b) (out : List ℕ) (o : Arrival) (bytes : List ℕ)
    (fit : fits (fragment_of o (length bytes)) ≡ true) (p : ℕ) (a : Assembly) (at_home : Home c share b (entry (offer_of o bytes)) p a) where
  laid-size : length (laid share p o bytes) ≡ share_size c.plan
  laid-size =
      length-overlay share (start_of p (held-as o bytes)) bytes
      (room share p (held-as o bytes) bytes st.shape.size at_home.inside (new-length o bytes) fit)
      ∙ st.shape.size

  laid-stay : Unmoved (laid share p o bytes) share p
  laid-stay = unmoved-laid share p (held-as o bytes) bytes st.shape.size at_home.inside (new-length o bytes) fit

  module _ (free : Offer.is_conflict a (fragment_of o (length bytes)) ≡ false) (slot : Offer.is_full a ≡ false) where
    pub joins : with (entered-as o bytes) b ≡ map (content_of (laid share p o bytes) p) (held_fragments (added a (held-as o bytes)))
    joins = joined-content c share b o bytes p a st.shape.size at_home fit free slot

    pub added-fits : all fits (held_fragments (added a (held-as o bytes))) ≡ true
    unfolding Offer.is_full all
    added-fits =
        let slots = slots-of a at_home.slots in
        let less : a.count < fragment_limit = below a.count fragment_limit at_home.count (eqb-false a.count fragment_limit slot) in
        let less' : a.count < length a.fragments = omega arith in
        ap (all fits) (held-added a (held-as o bytes) less') ∙ all_append fits (held_fragments a) (held-as o bytes ∷ [])
        ∙ ap₂ (λ (x y : Bool). x && (y && true)) at_home.fitting fit

    pub stored-fulfils : sound_record (Offer.storing p (added a (held-as o bytes)) (length bytes) c) ≡ true
        → Fulfils (Offer.leaving (Offer.storing p (added a (held-as o bytes)) (length bytes) c) (laid share p o bytes) out stored)
        (Book.leaving stored out (Book.storing (entered-as o bytes) b))
    stored-fulfils s = record {
      reply = refl;
      out = refl;
      stands =
          storing-stands c share b st (entered-as o bytes) p a at_home (laid share p o bytes) laid-size laid-stay (length bytes) (added a (held-as o bytes))
          (added-key a (held-as o bytes) ∙ at_home.key) (added-live a (held-as o bytes)) (added-opened a (held-as o bytes))
          (added-slotted a (held-as o bytes) at_home.slots) joins (new-size o bytes) s;
    }

    -- the one that is marked last is held
    module _ (t : is_last (last_of (held_fragments (added a (held-as o bytes)))) ≡ true) where
      abbrev end-one : Fragment
      end-one = last_of (held_fragments (added a (held-as o bytes)))

      final-end : end_of (content_of (laid share p o bytes) p end-one) ≡ end end-one
      final-end =
          same_end (laid share p o bytes) p laid-size at_home.inside end-one (last_fits (held_fragments (added a (held-as o bytes))) added-fits)

      pub final-cover : complete (end_of (content_of (laid share p o bytes) p end-one)) (with (entered-as o bytes) b)
          ≡ covered_to (end end-one) (held_fragments (added a (held-as o bytes)))
      final-cover =
          ap₂ complete final-end joins
          ∙ same-cover (laid share p o bytes) p laid-size at_home.inside (end end-one) (held_fragments (added a (held-as o bytes))) added-fits

      final-room : base p + end end-one ≤ length (laid share p o bytes)
      unfolding fits base share_size datagram_limit
      final-room =
          let ends = leb-true (end end-one) datagram_limit (last_fits (held_fragments (added a (held-as o bytes))) added-fits) in
          omega (arith, laid-size, at_home.inside, ends)

      final-out : covered_to (end end-one) (held_fragments (added a (held-as o bytes))) ≡ true
          → overlay out 0 (part (base p) (end end-one) (laid share p o bytes))
          ≡ bytes_to (end_of (content_of (laid share p o bytes) p end-one)) (with (entered-as o bytes) b)
          ++ drop (end_of (content_of (laid share p o bytes) p end-one)) out
      final-out u =
          let s' : List ℕ = laid share p o bytes in
          let n : ℕ = end end-one in
          let size_is : 0 + length (part (base p) n s') ≡ n = omega (arith, length_part (base p) n s' final-room) in
          ap₂ (λ (l : List ℕ) (m : ℕ). l ++ drop m out)
          (sym (bytes-there s' p laid-size at_home.inside n (held_fragments (added a (held-as o bytes))) added-fits u final-room)) size_is
          ∙ ap₂ (λ (l : List Content) (m : ℕ). bytes_to m l ++ drop m out) (sym joins) (sym final-end)

      pub delivered-fulfils : covered_to (end end-one) (held_fragments (added a (held-as o bytes))) ≡ true
          → sound_record (Offer.delivering p a (length bytes) c) ≡ true
          → Fulfils
          (Offer.leaving (Offer.delivering p a (length bytes) c) (laid share p o bytes) (overlay out 0 (part (base p) (end end-one) (laid share p o bytes)))
          (delivered (end end-one) end-one.option_start))
          (Book.leaving
          (delivered (end_of (content_of (laid share p o bytes) p end-one)) (content_of (laid share p o bytes) p end-one).start)
          (bytes_to (end_of (content_of (laid share p o bytes) p end-one)) (with (entered-as o bytes) b)
          ++ drop (end_of (content_of (laid share p o bytes) p end-one)) out)
          (Book.delivering (entered-as o bytes).key (size (entered-as o bytes).content) b))
      delivered-fulfils u s = record {
        reply = ap₂ delivered (sym final-end) (last-start (laid share p o bytes) p end-one t);
        out = final-out u;
        stands =
            subst (λ (n : ℕ). Stands (Offer.delivering p a (length bytes) c) (laid share p o bytes) (Book.delivering (entered-as o bytes).key n b))
            (new-size o bytes)
            (delivering-stands c share b st (entered-as o bytes) p a at_home (laid share p o bytes) laid-size laid-stay (length bytes) s);
      }
