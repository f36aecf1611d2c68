-- The files of a world that were read so far, and the configurations that they say.
use Rattle.std.proofs.Common.{◌≡◌, ◌+◌, ◌<◌, ℕ, suc, Bool, true, false, not, if◌then◌else◌, List, [], ◌∷◌, ◌++◌, Result, Ok, Err, IfOk, refl, sym, ap, ◌∙◌, subst, length, map, take, drop, get_or, append_assoc, drop-cons}
use Rattle.std.proofs.lemmas.Bool.{false≢true}
use Rattle.std.proofs.lemmas.List.{length-map, map-append, take-append-drop, take_more}
use Rattle.std.specs.Str.{IsUtf8}
use Rattle.line_streams.specs.Cuts.{lines_of}
use Rattle.line_streams.specs.Texts.{Stream}
use Rattle.lsr_config.specs.Configs.{Setup}
use Rattle.lsr_config.specs.Reading.{IsRead}
use Rattle.world_lines.specs.Named.{files_of}
use Rattle.lsr_runs.specs.Playing.{AreSaid, AreTexts, IsFileText, IsFirstSaidFault}
use Rattle.lsr_runs.specs.Sessions.{CannotBegin}
use Rattle.lsr_runs.specs.declared.endings.RunEnding.{RunEnding}
use Rattle.lsr_runs.specs.declared.endings.RunEnding.TheVariants as endings

pub texts_push : {F : Type 0} (opens : List ℕ → F → Type 0) (stream : F → Stream) (names texts : List (List ℕ)) (name text : List ℕ) → AreTexts opens stream names texts → IsFileText opens stream name text → AreTexts opens stream (names ++ (name ∷ [])) (texts ++ (text ∷ []))
texts_push opens stream [] [] name text h t = (t, tt)
texts_push opens stream [] (x ∷ texts) name text h t = absurd h
texts_push opens stream (n ∷ names) [] name text h t = absurd h
texts_push opens stream (n ∷ names) (x ∷ texts) name text h t = (h.0, texts_push opens stream names texts name text h.1 t)

pub said_push : (texts : List (List ℕ)) (configs : List Setup) (text : List ℕ) (config : Setup) → AreSaid texts configs → IsRead text (Ok config) → AreSaid (texts ++ (text ∷ [])) (configs ++ (config ∷ []))
said_push [] [] text config h r = (r, tt)
said_push [] (c ∷ configs) text config h r = absurd h
said_push (x ∷ texts) [] text config h r = absurd h
said_push (x ∷ texts) (c ∷ configs) text config h r = (h.0, said_push texts configs text config h.1 r)

-- The files that the lines before the rest name have these names and texts.
pub record AreReadTo {F : Type 0} (opens : List ℕ → F → Type 0) (stream : F → Stream) (text rest : List ℕ) (names texts : List (List ℕ)) : Type 0 where
  pub parts : files_of (lines_of text) ≡ names ++ files_of (lines_of rest)
  pub read : AreTexts opens stream names texts
  pub utf8 : IsUtf8 rest

-- one more file is read
pub reads_more : {F : Type 0} (opens : List ℕ → F → Type 0) (stream : F → Stream) (text rest : List ℕ) (names texts : List (List ℕ)) (name others said : List ℕ) → AreReadTo opens stream text rest names texts
    → files_of (lines_of rest) ≡ name ∷ files_of (lines_of others) → IsFileText opens stream name said → IsUtf8 others → AreReadTo opens stream text others (names ++ (name ∷ [])) (texts ++ (said ∷ []))
reads_more opens stream text rest names texts name others said before next is utf8 =
    record {
      parts = before.parts ∙ ap (λ files. names ++ files) next ∙ sym (append_assoc names (name ∷ []) (files_of (lines_of others)));
      read = texts_push opens stream names texts name said before.read is;
      utf8 = utf8;
    }

-- the first text that gives no router, for the ending that it leads to
pub first_said : (before after said unsaid : List (List ℕ)) (name text : List ℕ) (configs : List Setup) (ending : RunEnding) → length before ≡ length said → AreSaid said configs → CannotBegin text ending
    → IsFirstSaidFault (before ++ (name ∷ after)) (said ++ (text ∷ unsaid)) name ending
first_said before after said unsaid name text configs (endings.Ran ending) same are h = absurd h
first_said before after said unsaid name text configs (endings.Unread source fault) same are h = absurd h
first_said before after said unsaid name text configs endings.Memory same are h = tt
first_said before after said unsaid name text configs (endings.BadConfig fault place) same are h = (before, after, said, unsaid, text, configs, refl, refl, same, are, h)

-- the same of a list of files
pub reads_pushed : {F N : Type 0} (opens : List ℕ → F → Type 0) (stream : F → Stream) (text rest : List ℕ) (name_of said_of : N → List ℕ) (items : List N) (one : N) (after : List N) (name others : List ℕ) → AreReadTo opens stream text rest (map name_of items) (map said_of items)
    → after ≡ items ++ (one ∷ []) → files_of (lines_of rest) ≡ name ∷ files_of (lines_of others) → name_of one ≡ name → IsFileText opens stream name (said_of one) → IsUtf8 others → AreReadTo opens stream text others (map name_of after) (map said_of after)
reads_pushed {F} {N} opens stream text rest name_of said_of items one after name others before grown next named is utf8 =
    let names = map-append name_of items (one ∷ []) ∙ ap (λ (n : List ℕ). map name_of items ++ (n ∷ [])) named in
    let texts = map-append said_of items (one ∷ []) in
    subst (λ (xs : List N). AreReadTo opens stream text others (map name_of xs) (map said_of xs)) (sym grown)
    (subst (λ (ns : List (List ℕ)). AreReadTo opens stream text others ns (map said_of (items ++ (one ∷ [])))) (sym names)
    (subst (λ (ts : List (List ℕ)). AreReadTo opens stream text others (map name_of items ++ (name ∷ [])) ts) (sym texts)
    (reads_more opens stream text rest (map name_of items) (map said_of items) name others (said_of one) before next is utf8)))

-- one more of the texts says a configuration
pub said_next : {N : Type 0} (said_of : N → List ℕ) (items : List N) (i : ℕ) (one : N) (configs : List Setup) (config : Setup) (after : List Setup) → AreSaid (map said_of (take i items)) configs → i < length items → get_or items i one ≡ one → IsRead (said_of one) (Ok config)
    → after ≡ configs ++ (config ∷ []) → AreSaid (map said_of (take (i + 1) items)) after
said_next {N} said_of items i one configs config after before i_in at says grown =
    let taken = take_more items i one i_in ∙ ap (λ (x : N). take i items ++ (x ∷ [])) at in
    subst (λ (xs : List N). AreSaid (map said_of xs) after) (sym taken)
    (subst (λ (ts : List (List ℕ)). AreSaid ts after) (sym (map-append said_of (take i items) (one ∷ [])))
    (subst (λ (cs : List Setup). AreSaid (map said_of (take i items) ++ (said_of one ∷ [])) cs) (sym grown) (said_push (map said_of (take i items)) configs (said_of one) config before says)))

-- the next of the texts gives no router
pub said_stops : {N : Type 0} (name_of said_of : N → List ℕ) (items : List N) (i : ℕ) (one : N) (configs : List Setup) (ending : RunEnding) → AreSaid (map said_of (take i items)) configs → i < length items → get_or items i one ≡ one → CannotBegin (said_of one) ending
    → IsFirstSaidFault (map name_of items) (map said_of items) (name_of one) ending
said_stops {N} name_of said_of items i one configs ending before i_in at stops =
    let front = take i items in
    let back = drop (suc i) items in
    let parts : items ≡ front ++ (one ∷ back) = sym (take-append-drop i items) ∙ ap (λ (xs : List N). front ++ xs) (drop-cons items i one i_in ∙ ap (λ (x : N). x ∷ back) at) in
    let same : length (map name_of front) ≡ length (map said_of front) = length-map front name_of ∙ sym (length-map front said_of) in
    let whole = subst (λ (names : List (List ℕ)). IsFirstSaidFault names (map said_of (front ++ (one ∷ back))) (name_of one) ending) (sym (map-append name_of front (one ∷ back)))
    (subst (λ (texts : List (List ℕ)). IsFirstSaidFault (map name_of front ++ (name_of one ∷ map name_of back)) texts (name_of one) ending) (sym (map-append said_of front (one ∷ back)))
    (first_said (map name_of front) (map name_of back) (map said_of front) (map said_of back) (name_of one) (said_of one) configs ending same before stops)) in
    subst (λ (xs : List N). IsFirstSaidFault (map name_of xs) (map said_of xs) (name_of one) ending) (sym parts) whole

-- what is pushed where that wasn't refused
pub pushed : {N : Type 0} (taken refused : Bool) (items after : List N) (one : N) → after ≡ (if taken then items ++ (one ∷ []) else items) → taken ≡ not refused → refused ≡ false → after ≡ items ++ (one ∷ [])
pushed true refused items after one e n f = e
pushed false refused items after one e n f = absurd (false≢true (n ∙ ap not f))

-- what follows of a value that is there
pub ok_then : {T E : Type 0} (P Q : T → Type 0) (r : Result T E) → ((x : T) → P x → Q x) → IfOk r P → IfOk r Q
ok_then P Q (Ok x) f h = f x h
ok_then P Q (Err e) f h = h
