-- A packaging name by name: what one name puts, and what is left of the names.
use Rattle.std.proofs.Common.{◌≡◌, ◌≢◌, ◌≤◌, ◌<◌, ◌+◌, ℕ, suc, arith, drop, drop-cons, get_or, Bool, true, false, List, [], ◌∷◌, ◌++◌, Option, Some, None, Result, Ok, Err, refl, sym, ap, ap₂, ◌∙◌, subst, append-nil, append_assoc}
use Rattle.std.proofs.lemmas.List.{drop_all}
use Rattle.std.specs.Prelude.{codes, decimal, length, if◌then◌else◌}
use Rattle.vod_types.specs.declared.paths.Leaf.{Leaf}
use Rattle.vod_types.specs.declared.refusal.Refusal.{Refusal}
use Rattle.vod_types.specs.declared.refusal.Refusal.TheVariants.{NoMemory, StoreFailed}
use Rattle.vod_source.specs.Told.{told_with, GrewByPrefix, Grows}
use Rattle.vod_source.proofs.ToldLemmas.{GrewByPrefix-after, GrewByPrefix-front, GrewByPrefix-same, told_with-more, told_with-nil}
use Rattle.list_model.specs.Names.{printed_name}
use Rattle.list_model.specs.Pack.{end_mark, entry, is_list, pack, stops_at}
use Rattle.list_model.specs.Reply.{Answer, Body, End, whole, bad_nal}
use Rattle.list_model.specs.Text.{line}
use Rattle.flat_segments.specs.Bodies.{cut_of, flat_shown}
use Rattle.flat_segments.specs.declared.body.FlatBody.{FlatBody}
use Rattle.vod_source.specs.Calls.{AnswersUnlessFailed}
use Rattle.mp4_flat.specs.Flat.{flat_seen}
use Rattle.mp4_flat.specs.Packed.{IsPackPath, IsPackedAs, body_line, cut_mark, refused_line}
use Rattle.mp4_flat.specs.declared.entries.PackEnd.{PackEnd}
use Rattle.mp4_flat.specs.declared.entries.PackEnd.TheVariants.{Whole, Refused, SinkFailed}

-- ---- two pieces

pub grows_by_both : {T E : Type 0} (result : Result T E) (before middle now : Option (List ℕ)) (first second : List ℕ) → middle ≡ told_with before first → Grows middle now result second → Grows before now result (first ++ second)
grows_by_both (Ok x) before middle now first second e grown = told_with-more before middle now first second e grown
grows_by_both (Err x) before middle now first second e grown = GrewByPrefix-after first e grown

-- ---- one name

mark_of_end : (end : End) → end_mark end ≡ cut_mark (cut_of end)
mark_of_end whole = refl
mark_of_end (bad_nal file sample) = refl

body_entry : (name : List ℕ) (b : Body) (body : FlatBody) → (b.bytes, cut_of b.end) ≡ flat_shown body → entry name (Ok b) ≡ body_line name body ++ body.bytes.items
body_entry name b body e =
    ap₂ (λ (bytes mark : List ℕ). line (name ++ codes " " ++ decimal (length bytes) ++ mark) ++ bytes) (ap (λ s. s.0) e) (mark_of_end b.end ∙ ap cut_mark (ap (λ s. s.1) e))

-- what a name puts ahead of later names, by the refusal before which it stops
abbrev joined : Option Refusal → List ℕ → List ℕ × Option Refusal → List ℕ × Option Refusal
joined stop text later = elim stop [ None ↦ (text ++ later.0, later.1) | Some r ↦ ([], Some r) ]

module _ (dash : Bool) (answer : Leaf → Answer) (leaf : Leaf) where
  abbrev one : Answer → List ℕ × Option Refusal
  one due = joined (stops_at leaf due) (entry (printed_name dash leaf) due) ([], None)

  packed_one : pack dash answer (leaf ∷ []) ≡ one (answer leaf)
  unfolding pack
  packed_one = refl

  one_body : (body : FlatBody) (due : Answer) → flat_seen due ≡ Ok (flat_shown body) → one due ≡ (body_line (printed_name dash leaf) body ++ body.bytes.items, None)
  one_body body (Ok b) seen = ap (λ (text : List ℕ). (text, None)) (append-nil (entry (printed_name dash leaf) (Ok b)) ∙ body_entry (printed_name dash leaf) b body cc)
  one_body body (Err r) seen = absurd cc

  packed_body : (body : FlatBody) → flat_seen (answer leaf) ≡ Ok (flat_shown body) → pack dash answer (leaf ∷ []) ≡ (body_line (printed_name dash leaf) body ++ body.bytes.items, None)
  packed_body body e = packed_one ∙ one_body body (answer leaf) e

  refused_as : (r : Refusal) (due : Answer) → flat_seen due ≡ Err r → due ≡ Err r
  refused_as r (Ok b) seen = absurd cc
  refused_as r (Err d) seen = cc

  one_refused : (r : Refusal) (list : Bool) → is_list leaf ≡ list → one (Err r) ≡ joined (if list then Some r else None) (entry (printed_name dash leaf) (Err r)) ([], None)
  one_refused r list is = ap (λ (list : Bool). joined (if list then Some r else None) (entry (printed_name dash leaf) (Err r)) ([], None)) is

  packed_refusal : (r : Refusal) → answer leaf ≡ Err r → is_list leaf ≡ false → pack dash answer (leaf ∷ []) ≡ (refused_line (printed_name dash leaf) r, None)
  packed_refusal r is other =
      packed_one ∙ ap one is ∙ one_refused r false other ∙ ap (λ (text : List ℕ). (text, None)) (append-nil (entry (printed_name dash leaf) (Err r)))

  packed_stop : (r : Refusal) → answer leaf ≡ Err r → is_list leaf ≡ true → pack dash answer (leaf ∷ []) ≡ ([], Some r)
  packed_stop r is list = packed_one ∙ ap one is ∙ one_refused r true list

  module _ (end : PackEnd) (before now : Option (List ℕ)) where
    -- it has a body
    pub body_put : (body : FlatBody) → flat_seen (answer leaf) ≡ Ok (flat_shown body) → IsPackedAs (body_line (printed_name dash leaf) body ++ body.bytes.items, None) end before now
        → IsPackedAs (pack dash answer (leaf ∷ [])) end before now
    body_put body e put = subst (λ (due : List ℕ × Option Refusal). IsPackedAs due end before now) (sym (packed_body body e)) put

    -- it is no list and is refused
    pub refusal_put : (r : Refusal) → AnswersUnlessFailed {X = FlatBody} flat_shown (Err r) (flat_seen (answer leaf)) → is_list leaf ≡ false → r ≢ NoMemory → r ≢ StoreFailed
        → IsPackedAs (refused_line (printed_name dash leaf) r, None) end before now → IsPackedAs (pack dash answer (leaf ∷ [])) end before now
    refusal_put r due other memory store put =
        subst (λ (due : List ℕ × Option Refusal). IsPackedAs due end before now) (sym (packed_refusal r (refused_as r (answer leaf) (due memory store)) other)) put

  -- it is a list that is refused, or the call failed
  pub list_refused : (r : Refusal) (told : Option (List ℕ)) → AnswersUnlessFailed {X = FlatBody} flat_shown (Err r) (flat_seen (answer leaf)) → (r ≢ NoMemory → r ≢ StoreFailed → is_list leaf ≡ true)
      → IsPackedAs (pack dash answer (leaf ∷ [])) (Refused r) told told
  list_refused r told due list = (
    GrewByPrefix-same told told (pack dash answer (leaf ∷ [])).0 refl,
    λ memory store. let is = packed_stop r (refused_as r (answer leaf) (due memory store)) (list memory store) in
        (ap (λ (due : List ℕ × Option Refusal). due.1) is, sym (told_with-nil told) ∙ ap (λ (due : List ℕ × Option Refusal). told_with told due.0) (sym is)),
  )

-- ---- the names one after another

joined_on : (stop : Option Refusal) (text : List ℕ) (later : List ℕ × Option Refusal) → (joined stop text ([], None)).1 ≡ None → joined stop text later ≡ ((joined stop text ([], None)).0 ++ later.0, later.1)
joined_on None text later e = ap (λ (front : List ℕ). (front ++ later.0, later.1)) (sym (append-nil text))
joined_on (Some r) text later e = absurd cc

joined_stopped : (stop : Option Refusal) (text : List ℕ) (later : List ℕ × Option Refusal) (r : Refusal) → (joined stop text ([], None)).1 ≡ Some r → joined stop text later ≡ joined stop text ([], None)
joined_stopped None text later r e = absurd cc
joined_stopped (Some d) text later r e = refl

module _ (dash : Bool) (answer : Leaf → Answer) where
  abbrev of : List Leaf → List ℕ × Option Refusal
  of leaves = pack dash answer leaves

  pack_on : (leaf : Leaf) (left : List Leaf) → (of (leaf ∷ [])).1 ≡ None → of (leaf ∷ left) ≡ ((of (leaf ∷ [])).0 ++ (of left).0, (of left).1)
  unfolding pack
  pack_on leaf left = joined_on (stops_at leaf (answer leaf)) (entry (printed_name dash leaf) (answer leaf)) (of left)

  pack_stopped : (leaf : Leaf) (left : List Leaf) (r : Refusal) → (of (leaf ∷ [])).1 ≡ Some r → of (leaf ∷ left) ≡ of (leaf ∷ [])
  unfolding pack
  pack_stopped leaf left r = joined_stopped (stops_at leaf (answer leaf)) (entry (printed_name dash leaf) (answer leaf)) (of left) r

  pack_front : (leaf : Leaf) (left : List Leaf) → (rest : List ℕ) × ((of (leaf ∷ left)).0 ≡ (of (leaf ∷ [])).0 ++ rest)
  pack_front leaf left = by_stop (of (leaf ∷ [])).1 refl
    where
      by_stop : (stop : Option Refusal) → (of (leaf ∷ [])).1 ≡ stop → (rest : List ℕ) × ((of (leaf ∷ left)).0 ≡ (of (leaf ∷ [])).0 ++ rest)
      by_stop None is = ((of left).0, ap (λ (due : List ℕ × Option Refusal). due.0) (pack_on leaf left is))
      by_stop (Some r) is = ([], ap (λ (due : List ℕ × Option Refusal). due.0) (pack_stopped leaf left r is) ∙ sym (append-nil (of (leaf ∷ [])).0))

  module _ (leaves : List Leaf) (before : Option (List ℕ)) where
    pub path_begun : IsPackPath dash answer leaves leaves before before
    path_begun = record { text = []; rest = refl; grew = sym (told_with-nil before) }

    module _ (leaf : Leaf) (left : List Leaf) (middle now : Option (List ℕ)) (path : IsPackPath dash answer leaves (leaf ∷ left) before middle) where
      path_on : IsPackedAs (of (leaf ∷ [])) Whole middle now → IsPackPath dash answer leaves left before now
      path_on put =
          let next = pack_on leaf left put.0 in
          record {
            text = path.text ++ (of (leaf ∷ [])).0;
            rest = path.rest ∙ ap (λ (due : List ℕ × Option Refusal). (path.text ++ due.0, due.1)) next
                ∙ ap (λ (text : List ℕ). (text, (of left).1)) (sym (append_assoc path.text (of (leaf ∷ [])).0 (of left).0));
            grew = told_with-more before middle now path.text (of (leaf ∷ [])).0 path.grew put.1;
          }

      prefix_then : GrewByPrefix middle now (of (leaf ∷ [])).0 → GrewByPrefix before now (of leaves).0
      prefix_then grown =
          let front = pack_front leaf left in
          GrewByPrefix-front (path.text ++ (of (leaf ∷ [])).0) front.0 (of leaves).0
          (ap (λ (due : List ℕ × Option Refusal). due.0) path.rest ∙ ap (λ (text : List ℕ). path.text ++ text) front.1 ∙ sym (append_assoc path.text (of (leaf ∷ [])).0 front.0))
          (GrewByPrefix-after path.text path.grew grown)

      path_refused : (r : Refusal) → IsPackedAs (of (leaf ∷ [])) (Refused r) middle now → IsPackedAs (of leaves) (Refused r) before now
      path_refused r put = (
        prefix_then put.0,
        λ memory store. let one = put.1 memory store in
            let all = path.rest ∙ ap (λ (due : List ℕ × Option Refusal). (path.text ++ due.0, due.1)) (pack_stopped leaf left r one.0) in (
              ap (λ (due : List ℕ × Option Refusal). due.1) all ∙ one.0,
              told_with-more before middle now path.text (of (leaf ∷ [])).0 path.grew one.1 ∙ ap (λ (due : List ℕ × Option Refusal). told_with before due.0) (sym all),
            ),
      )

      path_failed : IsPackedAs (of (leaf ∷ [])) SinkFailed middle now → IsPackedAs (of leaves) SinkFailed before now
      path_failed put = prefix_then put

    path_whole : (now : Option (List ℕ)) → IsPackPath dash answer leaves [] before now → IsPackedAs (of leaves) Whole before now
    unfolding pack
    path_whole now path = (
      ap (λ (due : List ℕ × Option Refusal). due.1) path.rest,
      path.grew ∙ ap (told_with before) (sym (ap (λ (due : List ℕ × Option Refusal). due.0) path.rest ∙ append-nil path.text)),
    )

    -- by how many names are past
    at_name : (i : ℕ) (none : Leaf) → i < length leaves → drop i leaves ≡ get_or leaves i none ∷ drop (i + 1) leaves
    at_name i none lt = drop-cons leaves i none lt ∙ ap (λ (n : ℕ). get_or leaves i none ∷ drop n leaves) (let next : suc i ≡ i + 1 = omega arith in next)

    module _ (i : ℕ) (none : Leaf) (middle now : Option (List ℕ)) (lt : i < length leaves) (path : IsPackPath dash answer leaves (drop i leaves) before middle) where
      here : IsPackPath dash answer leaves (get_or leaves i none ∷ drop (i + 1) leaves) before middle
      here = subst (λ (left : List Leaf). IsPackPath dash answer leaves left before middle) (at_name i none lt) path

      pub name_put : IsPackedAs (of (get_or leaves i none ∷ [])) Whole middle now → IsPackPath dash answer leaves (drop (i + 1) leaves) before now
      name_put put = path_on (get_or leaves i none) (drop (i + 1) leaves) middle now here put

      pub name_refused : (r : Refusal) → IsPackedAs (of (get_or leaves i none ∷ [])) (Refused r) middle now → IsPackedAs (of leaves) (Refused r) before now
      name_refused r put = path_refused (get_or leaves i none) (drop (i + 1) leaves) middle now here r put

      pub name_failed : IsPackedAs (of (get_or leaves i none ∷ [])) SinkFailed middle now → IsPackedAs (of leaves) SinkFailed before now
      name_failed put = path_failed (get_or leaves i none) (drop (i + 1) leaves) middle now here put

    pub all_put : (i : ℕ) (now : Option (List ℕ)) → length leaves ≤ i → IsPackPath dash answer leaves (drop i leaves) before now → IsPackedAs (of leaves) Whole before now
    all_put i now past path = path_whole now (subst (λ (left : List Leaf). IsPackPath dash answer leaves left before now) (drop_all i leaves past) path)
