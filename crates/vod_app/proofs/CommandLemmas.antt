-- Which words spell a command that is built.
use Rattle.std.proofs.Common.{◌≡◌, ◌≢◌, ℕ, Bool, true, false, List, [], ◌∷◌, length, get_or, Option, Some, None, refl, sym, ap, ◌∙◌, arith, inl, inr}
use Rattle.std.specs.Prelude.{◌⊎◌, ◌&&◌, not, ◌==◌, bytes_eq, codes, option_map, option_and_then, if◌then◌else◌}
use Rattle.std.proofs.lemmas.Slice.Eq.{bytes_eq-Decides}
use Rattle.vod_types.specs.Numbers.{number_up_to}
use Rattle.list_model.specs.Command.{Command, Requested, get, reads, plan, pack, serve, turns, rehearse, ServingForm, command_of, none_empty}
use Rattle.vod_app.specs.declared.words.Order.{Order}
use Rattle.vod_app.specs.declared.words.Order.TheVariants as orders
use Rattle.vod_app.specs.Commands.{count_up_to, order_of_form, serving}

-- the command of four words, none of which is empty, by what the first one is
abbrev form_found : Bool → Bool → Bool → Bool → Requested → Option Command
form_found is_get is_reads is_plan is_pack q =
    option_map (λ (form : List ℕ × (Requested → Command)). form.1 q)
    (if is_get then Some (codes "get", get)
    else (if is_reads then Some (codes "reads", reads)
    else (if is_plan then Some (codes "plan", plan)
    else (if is_pack then Some (codes "pack", pack) else None))))

command_of-four : (word root settings path : List ℕ)
    → command_of (word ∷ root ∷ settings ∷ path ∷ [])
    ≡ (if none_empty (root ∷ settings ∷ path ∷ [])
    then form_found (bytes_eq (codes "get") word) (bytes_eq (codes "reads") word) (bytes_eq (codes "plan") word) (bytes_eq (codes "pack") word)
    (record { root = root; settings = settings; path = path })
    else None)
unfolding command_of
command_of-four word root settings path = refl

-- the words of another form spell nothing
pub built-other : (word root settings path : List ℕ) → bytes_eq (codes "get") word ≡ false → bytes_eq (codes "reads") word ≡ false → bytes_eq (codes "plan") word ≡ false
    → bytes_eq (codes "pack") word ≡ false → command_of (word ∷ root ∷ settings ∷ path ∷ []) ≡ None
built-other word root settings path e f g h =
    let q : Requested = record { root = root; settings = settings; path = path } in
    command_of-four word root settings path
    ∙ (rw (e, f, g, h) (none_either (none_empty (root ∷ settings ∷ path ∷ [])) (form_found false false false false q) refl))
  where
    none_either : (all : Bool) (found : Option Command) → found ≡ None → (if all then found else None) ≡ None
    none_either true found h = h
    none_either false found h = refl

-- an empty word spells nothing
pub built-empty : (word root settings path : List ℕ) → none_empty (root ∷ settings ∷ path ∷ []) ≡ false → command_of (word ∷ root ∷ settings ∷ path ∷ []) ≡ None
built-empty word root settings path e = command_of-four word root settings path ∙ rw e refl

-- the words of `get`
pub built-get : (root settings path : List ℕ) → none_empty (root ∷ settings ∷ path ∷ []) ≡ true
    → command_of (codes "get" ∷ root ∷ settings ∷ path ∷ []) ≡ Some (get (record { root = root; settings = settings; path = path }))
built-get root settings path e = command_of-four (codes "get") root settings path ∙ rw e refl

-- the words of `plan`
pub built-plan : (root settings path : List ℕ) → none_empty (root ∷ settings ∷ path ∷ []) ≡ true
    → command_of (codes "plan" ∷ root ∷ settings ∷ path ∷ []) ≡ Some (plan (record { root = root; settings = settings; path = path }))
built-plan root settings path e = command_of-four (codes "plan") root settings path ∙ rw e refl

-- the words of `reads`
pub built-reads : (root settings path : List ℕ) → none_empty (root ∷ settings ∷ path ∷ []) ≡ true
    → command_of (codes "reads" ∷ root ∷ settings ∷ path ∷ []) ≡ Some (reads (record { root = root; settings = settings; path = path }))
built-reads root settings path e = command_of-four (codes "reads") root settings path ∙ rw e refl

-- the words of `pack`
pub built-pack : (root settings path : List ℕ) → none_empty (root ∷ settings ∷ path ∷ []) ≡ true
    → command_of (codes "pack" ∷ root ∷ settings ∷ path ∷ []) ≡ Some (pack (record { root = root; settings = settings; path = path }))
built-pack root settings path e = command_of-four (codes "pack") root settings path ∙ rw e refl

-- ---- five words

-- a count is at least 1
counted : (command : ℕ → Command) (found : Option ℕ)
    → option_and_then (λ n. if n == 0 then None else Some (command n)) found
    ≡ option_map command (option_and_then (λ n. if n == 0 then None else Some n) found)
counted command None = refl
counted command (Some n) = by_count (n == 0)
  where
    by_count : (is_none : Bool) → (if is_none then None else Some (command n)) ≡ option_map command (if is_none then None else Some n)
    by_count true = refl
    by_count false = refl

-- the command of five words, none of which is empty, by its order
abbrev service_found : List ℕ → List ℕ → List ℕ → List ℕ → Option (Order × ℕ) → Option Command
service_found root settings addr count order =
    option_and_then (λ (of : Order × ℕ). option_map (λ n. serving of.0 root settings addr n) (count_up_to of.1 count)) order

module _ (root settings addr count : List ℕ) where
  of_five : (all is_serve is_turns : Bool)
      → (if all then option_and_then (λ (form : ServingForm). option_and_then (λ n. if n == 0 then None else Some (form.command root settings addr n)) (number_up_to form.most count))
      (if is_serve then Some (record { word = codes "serve"; most = 4294967295; command = serve })
      else (if is_turns then Some (record { word = codes "turns"; most = 64; command = turns }) else None)) else None)
      ≡ (if all then service_found root settings addr count (if is_serve then Some (orders.OneByOne, 4294967295) else (if is_turns then Some (orders.InTurns, 64) else None)) else None)
  of_five false is_serve is_turns = refl
  of_five true true is_turns = counted (serve root settings addr) (number_up_to 4294967295 count)
  of_five true false true = counted (turns root settings addr) (number_up_to 64 count)
  of_five true false false = refl

  command_of-five : (word : List ℕ)
      → command_of (word ∷ root ∷ settings ∷ addr ∷ count ∷ [])
      ≡ (if none_empty (root ∷ settings ∷ addr ∷ []) then service_found root settings addr count (order_of_form word) else None)
  unfolding command_of
  command_of-five word = of_five (none_empty (root ∷ settings ∷ addr ∷ [])) (bytes_eq (codes "serve") word) (bytes_eq (codes "turns") word)

-- a text that isn't this one
unlike : (a b : List ℕ) → a ≢ b → bytes_eq a b ≡ false
unlike a b other = by_test (bytes_eq a b) refl
  where
    by_test : (test : Bool) → bytes_eq a b ≡ test → bytes_eq a b ≡ false
    by_test false e = e
    by_test true e = absurd (other ((bytes_eq-Decides a b).0 e))

-- words of another number
pub other_number : (words : List (List ℕ)) → length words ≢ 2 → length words ≢ 4 → length words ≢ 5 → command_of words ≡ None
unfolding command_of
other_number [] h i j = refl
other_number (a ∷ []) h i j = refl
other_number (a ∷ b ∷ []) h i j = absurd (h refl)
other_number (a ∷ b ∷ c ∷ []) h i j = refl
other_number (a ∷ b ∷ c ∷ d ∷ []) h i j = absurd (i refl)
other_number (a ∷ b ∷ c ∷ d ∷ e ∷ []) h i j = absurd (j refl)
other_number (a ∷ b ∷ c ∷ d ∷ e ∷ f ∷ words) h i j = refl

-- ---- two words

pub rehearse_words : (word number : List ℕ) (n : ℕ) → word ≡ codes "rehearse" → Some n ≡ number_up_to 4294967295 number → command_of (word ∷ number ∷ []) ≡ Some (rehearse n)
unfolding command_of
rehearse_words word number n e f =
    ap (λ w. command_of (w ∷ number ∷ [])) e ∙ ap (option_map rehearse) (sym f)

pub no_number : (word number : List ℕ) → word ≡ codes "rehearse" → None ≡ number_up_to 4294967295 number → command_of (word ∷ number ∷ []) ≡ None
unfolding command_of
no_number word number e f =
    ap (λ w. command_of (w ∷ number ∷ [])) e ∙ ap (option_map rehearse) (sym f)

pub no_rehearsal : (word number : List ℕ) → word ≢ codes "rehearse" → command_of (word ∷ number ∷ []) ≡ None
unfolding command_of
no_rehearsal word number other = ap (λ b. if b then option_map rehearse (number_up_to 4294967295 number) else None) (unlike word (codes "rehearse") other)

-- four words by their places
pub four_words : {X : Type 0} (words : List X) (a b c d : X) → length words ≡ 4 → a ≡ get_or words 0 a → b ≡ get_or words 1 b → c ≡ get_or words 2 c → d ≡ get_or words 3 d
    → words ≡ a ∷ b ∷ c ∷ d ∷ []
four_words [] a b c d h e f g i = absurd (omega arith)
four_words (w ∷ []) a b c d h e f g i = absurd (omega arith)
four_words (w ∷ x ∷ []) a b c d h e f g i = absurd (omega arith)
four_words (w ∷ x ∷ y ∷ []) a b c d h e f g i = absurd (omega arith)
four_words (w ∷ x ∷ y ∷ z ∷ []) a b c d h e f g i = cc
four_words (w ∷ x ∷ y ∷ z ∷ v ∷ words) a b c d h e f g i = absurd (omega arith)

-- ---- in the forms in which the code tests words

-- a text that isn't this one
differs : (a b : List ℕ) → a ≢ b → bytes_eq b a ≡ false
differs a b other = by_test (bytes_eq b a) refl
  where
    by_test : (test : Bool) → bytes_eq b a ≡ test → bytes_eq b a ≡ false
    by_test false e = e
    by_test true e = absurd (other (sym ((bytes_eq-Decides b a).0 e)))

pub other_word : (word root settings path : List ℕ) → word ≢ codes "get" → word ≢ codes "reads" → word ≢ codes "plan" → word ≢ codes "pack"
    → command_of (word ∷ root ∷ settings ∷ path ∷ []) ≡ None
other_word word root settings path h i j k =
    built-other word root settings path (differs word (codes "get") h) (differs word (codes "reads") i) (differs word (codes "plan") j) (differs word (codes "pack") k)

-- one of three words is empty
and_false : (a b c : Bool) → (true ≡ a) ⊎ (true ≡ b) ⊎ (true ≡ c) → (not a && (not b && (not c && true))) ≡ false
and_false true b c h = refl
and_false false true c h = refl
and_false false false true h = refl
and_false false false false (inl h) = absurd cc
and_false false false false (inr (inl h)) = absurd cc
and_false false false false (inr (inr h)) = absurd cc

pub empty_word : (word root settings path : List ℕ)
    → (true ≡ (length root == 0)) ⊎ (true ≡ (length settings == 0)) ⊎ (true ≡ (length path == 0))
    → command_of (word ∷ root ∷ settings ∷ path ∷ []) ≡ None
empty_word word root settings path h =
    built-empty word root settings path (and_false (length root == 0) (length settings == 0) (length path == 0) h)

and_true : (a b c : Bool) → false ≡ a → false ≡ b → false ≡ c → (not a && (not b && (not c && true))) ≡ true
and_true false false false h i j = refl
and_true true b c h i j = absurd cc
and_true false true c h i j = absurd cc
and_true false false true h i j = absurd cc

module _ (word root settings path : List ℕ) (root_some : false ≡ (length root == 0)) (settings_some : false ≡ (length settings == 0)) (path_some : false ≡ (length path == 0)) where
  none_is : none_empty (root ∷ settings ∷ path ∷ []) ≡ true
  none_is = and_true (length root == 0) (length settings == 0) (length path == 0) root_some settings_some path_some

  pub get_words : word ≡ codes "get" → command_of (word ∷ root ∷ settings ∷ path ∷ []) ≡ Some (get (record { root = root; settings = settings; path = path }))
  get_words e = ap (λ w. command_of (w ∷ root ∷ settings ∷ path ∷ [])) e ∙ built-get root settings path none_is

  pub plan_words : word ≡ codes "plan" → command_of (word ∷ root ∷ settings ∷ path ∷ []) ≡ Some (plan (record { root = root; settings = settings; path = path }))
  plan_words e = ap (λ w. command_of (w ∷ root ∷ settings ∷ path ∷ [])) e ∙ built-plan root settings path none_is

  pub reads_words : word ≡ codes "reads" → command_of (word ∷ root ∷ settings ∷ path ∷ []) ≡ Some (reads (record { root = root; settings = settings; path = path }))
  reads_words e = ap (λ w. command_of (w ∷ root ∷ settings ∷ path ∷ [])) e ∙ built-reads root settings path none_is

  pub pack_words : word ≡ codes "pack" → command_of (word ∷ root ∷ settings ∷ path ∷ []) ≡ Some (pack (record { root = root; settings = settings; path = path }))
  pack_words e = ap (λ w. command_of (w ∷ root ∷ settings ∷ path ∷ [])) e ∙ built-pack root settings path none_is

-- ---- five words in the forms in which the code tests them

pub empty_in_service : (word root settings addr count : List ℕ)
    → (true ≡ (length root == 0)) ⊎ (true ≡ (length settings == 0)) ⊎ (true ≡ (length addr == 0))
    → command_of (word ∷ root ∷ settings ∷ addr ∷ count ∷ []) ≡ None
empty_in_service word root settings addr count h =
    let none = and_false (length root == 0) (length settings == 0) (length addr == 0) h in
    command_of-five root settings addr count word ∙ ap (λ b. if b then service_found root settings addr count (order_of_form word) else None) none

module _ (word root settings addr count : List ℕ) (root_some : false ≡ (length root == 0)) (settings_some : false ≡ (length settings == 0)) (addr_some : false ≡ (length addr == 0)) where
  some_is : command_of (word ∷ root ∷ settings ∷ addr ∷ count ∷ []) ≡ service_found root settings addr count (order_of_form word)
  some_is =
      let all = and_true (length root == 0) (length settings == 0) (length addr == 0) root_some settings_some addr_some in
      command_of-five root settings addr count word ∙ ap (λ b. if b then service_found root settings addr count (order_of_form word) else None) all

  pub no_order : None ≡ order_of_form word → command_of (word ∷ root ∷ settings ∷ addr ∷ count ∷ []) ≡ None
  no_order e = some_is ∙ ap (service_found root settings addr count) (sym e)

  pub no_count : (order : Order) (most : ℕ) → Some (order, most) ≡ order_of_form word → None ≡ count_up_to most count
      → command_of (word ∷ root ∷ settings ∷ addr ∷ count ∷ []) ≡ None
  no_count order most e f = some_is ∙ ap (service_found root settings addr count) (sym e) ∙ ap (λ found. option_map (λ n. serving order root settings addr n) found) (sym f)

  pub service_words : (order : Order) (most n : ℕ) → Some (order, most) ≡ order_of_form word → Some n ≡ count_up_to most count
      → command_of (word ∷ root ∷ settings ∷ addr ∷ count ∷ []) ≡ Some (serving order root settings addr n)
  service_words order most n e f = some_is ∙ ap (service_found root settings addr count) (sym e) ∙ ap (λ found. option_map (λ n. serving order root settings addr n) found) (sym f)

-- the orders
pub order_serve : (word : List ℕ) → word ≡ codes "serve" → Some (orders.OneByOne, 4294967295) ≡ order_of_form word
order_serve word e = ap order_of_form (sym e)

pub order_turns : (word : List ℕ) → word ≡ codes "turns" → Some (orders.InTurns, 64) ≡ order_of_form word
order_turns word e = ap order_of_form (sym e)

pub order_none : (word : List ℕ) → word ≢ codes "serve" → word ≢ codes "turns" → None ≡ order_of_form word
order_none word h i = rw (differs word (codes "serve") h, differs word (codes "turns") i) refl
