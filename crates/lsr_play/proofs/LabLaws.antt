-- What was done in a world so far, and what is done then.
use Rattle.std.proofs.Common.{◌≡◌, ◌+◌, ◌≤◌, ℕ, zero, suc, List, [], ◌∷◌, ◌++◌, Bor, Option, None, Some, inl, inr, refl, sym, ap, ◌∙◌, subst, arith, length, append_assoc, append-nil, codes}
use Rattle.std.specs.Str.{IsUtf8}
use Rattle.std.specs.Io.KnownBytes.{Appends, Keeps, append_known}
use Rattle.std.proofs.KnownBytes.{Appends-kept, Appends-nil, Appends-trans, Keeps-refl, append_known-grown}
use Rattle.router_core.specs.States.{RouterState}
use Rattle.abstract_world.specs.Worlds.{WorldState}
use Rattle.abstract_world.specs.declared.moves.Move.{Move}
use Rattle.lsr_facts.specs.declared.refusal.Refusal.TheVariants.{NoRouter}
use Rattle.lsr_lines.specs.declared.shown.Shown.{Shown}
use Rattle.line_streams.proofs.CutLaws.{lines_of-nil}
use Rattle.line_streams.specs.Cuts.{lines_of}
use Rattle.lsr_play.specs.Declaring.{Declaration, nothing}
use Rattle.lsr_play.specs.Chosen.{chosen_line}
use Rattle.lsr_play.specs.Labs.{AreDeclaredAmong, LabAct, LabActs, LabTells, PassesOrDeclares, ShowsNamed, named_text}
use Rattle.lsr_play.specs.Making.{MakesMove}
use Rattle.lsr_session.specs.Requests.{Shows}
use Rattle.lsr_text.specs.Answers.{refusal_line}

acts_then : (names : List (Bor (List ℕ))) (n m : ℕ) (a : WorldState) (p : List ℕ) (b : WorldState) (q : List ℕ) (c : WorldState) → LabActs names n a p b → LabActs names m b q c → LabActs names (n + m) a (p ++ q) c
acts_then names zero m a p b q c h k =
    let same : m ≡ 0 + m = omega arith in
    subst (λ count. LabActs names count a (p ++ q) c) same (subst (λ w. LabActs names m w (p ++ q) c) h.1 (subst (λ l. LabActs names m b l c) (sym (ap (λ l. l ++ q) h.0)) k))
acts_then names (suc n) m a p b q c h k =
    let more : suc (n + m) ≡ suc n + m = omega arith in
    subst (λ count. LabActs names count a (p ++ q) c) more (h.0, h.1 ++ q, h.2, ap (λ l. l ++ q) h.3 ∙ append_assoc h.0 h.1 q, h.4, acts_then names n m h.2 h.1 b q c h.5 k)

-- nothing is done
pub tells_none : (names : List (Bor (List ℕ))) (a : WorldState) (out : Option (List ℕ)) → LabTells names a out out a
tells_none names a out = record { printed = []; told = Appends-nil out; count = 0; acts = (refl, refl) }

-- one thing is done, and a full block is written
pub tells_one : (names : List (Bor (List ℕ))) (a : WorldState) (out : Option (List ℕ)) (block more printed : List ℕ) (b : WorldState) (after : Option (List ℕ)) → LabAct names a printed b → more ≡ block ++ printed → Keeps (append_known out more) after
    → LabTells names a (append_known out block) after b
tells_one names a out block more printed b after act grown kept =
    record {
      printed = printed;
      told = Appends-kept _ _ _ _ (append_known-grown _ _ _ _ _ (Keeps-refl _) grown) kept;
      count = 1;
      acts = (printed, [], b, sym (append-nil printed), act, (refl, refl));
    }

-- a move of chance is made, after the line that says it
pub tells_chosen : (names : List (Bor (List ℕ))) (a : WorldState) (out : Option (List ℕ)) (block mid more text : List ℕ) (one : Move) (b : WorldState) (after : Option (List ℕ)) → mid ≡ block ++ chosen_line names one → more ≡ mid ++ text → MakesMove names a one text b
    → Keeps (append_known out more) after → LabTells names a (append_known out block) after b
tells_chosen names a out block mid more text one b after said grown made kept =
    tells_one names a out block more (chosen_line names one ++ text) b after (inr (inl (one, text, refl, made))) (grown ∙ ap (λ l. l ++ text) said ∙ append_assoc block (chosen_line names one) text) kept

-- a router that is there shows what it knows
pub shows_at : (found : Option RouterState) (router : RouterState) (name : List ℕ) (shown : Shown) (text named : List ℕ) → Some router ≡ found → Shows router [] shown text → named ≡ named_text name (lines_of text) → ShowsNamed found name shown named
shows_at found router name shown text named e shows is = subst (λ (r : Option RouterState). ShowsNamed r name shown named) e (text, shows, is)

-- and one that isn't there is refused
pub shows_none : (found : Option RouterState) (name : List ℕ) (shown : Shown) (printed : List ℕ) → None ≡ found → printed ≡ refusal_line NoRouter → ShowsNamed found name shown printed
shows_none found name shown printed e is = subst (λ (r : Option RouterState). ShowsNamed r name shown printed) e is

-- the same from a world that is this one, and to one that is
pub tells_from : (names : List (Bor (List ℕ))) (a : WorldState) (x y : Option (List ℕ)) (b start : WorldState) → start ≡ a → LabTells names start x y b → LabTells names a x y b
tells_from names a x y b start e h = subst (λ world. LabTells names world x y b) e h

pub tells_to : (names : List (Bor (List ℕ))) (a : WorldState) (x y : Option (List ℕ)) (b end : WorldState) → end ≡ b → LabTells names a x y b → LabTells names a x y end
tells_to names a x y b end e h = subst (λ world. LabTells names a x y world) (sym e) h

pub tells_then : (names : List (Bor (List ℕ))) (a : WorldState) (x y : Option (List ℕ)) (b : WorldState) (z : Option (List ℕ)) (c : WorldState) → LabTells names a x y b → LabTells names b y z c → LabTells names a x z c
tells_then names a x y b z c h k =
    record {
      printed = h.printed ++ k.printed;
      told = Appends-trans x y z h.printed k.printed h.told k.told;
      count = h.count + k.count;
      acts = acts_then names h.count k.count a h.printed b k.printed c h.acts k.acts;
    }

-- The lines before the rest were taken, and this was done.
pub record IsLabTo (names : List (Bor (List ℕ))) (before : WorldState) (text : List ℕ) (old new : Option (List ℕ)) (rest : List ℕ) (count number : ℕ) (after : WorldState) : Type 0 where
  pub tells : LabTells names before old new after
  pub room : number + length rest ≤ count + length text
  pub utf8 : IsUtf8 rest

among_push : (a : Declaration) (lines : List (List ℕ)) (b : Declaration) (line : List ℕ) (c : Declaration) → AreDeclaredAmong a lines b → PassesOrDeclares b line c → AreDeclaredAmong a (lines ++ (line ∷ [])) c
among_push a [] b line c h d = (c, subst (λ s. PassesOrDeclares s line c) h d, refl)
among_push a (first ∷ lines) b line c h d = (h.0, h.1, among_push h.0 lines b line c h.2 d)

-- The lines before the rest declare this, and remarks are among them.
pub record IsAmongTo (text rest : List ℕ) (count : ℕ) (d : Declaration) : Type 0 where
  pub lines : List (List ℕ)
  pub parts : lines_of text ≡ lines ++ lines_of rest
  pub declared : AreDeclaredAmong nothing lines d
  pub room : count + length rest ≤ length text
  pub utf8 : IsUtf8 rest

-- one line more
pub among_more : (text rest line others : List ℕ) (count : ℕ) (d after : Declaration) → IsAmongTo text rest count d → PassesOrDeclares d line after → lines_of rest ≡ line ∷ lines_of others → length others + 1 ≤ length rest → IsUtf8 others
    → IsAmongTo text others (count + 1) after
among_more text rest line others count d after before passes cut shorter utf8 =
    record {
      lines = before.lines ++ (line ∷ []);
      parts = before.parts ∙ ap (λ l. before.lines ++ l) cut ∙ sym (append_assoc before.lines (line ∷ []) (lines_of others));
      declared = among_push nothing before.lines d line after before.declared passes;
      room = omega (arith, before.room);
      utf8 = utf8;
    }

-- The lines of a text before its rest, with a name before each.
pub record IsNamedTo (name text rest named : List ℕ) : Type 0 where
  pub all : named_text name (lines_of text) ≡ named ++ named_text name (lines_of rest)
  pub utf8 : IsUtf8 rest

pub named_more : (name text rest line others named after : List ℕ) → IsNamedTo name text rest named → lines_of rest ≡ line ∷ lines_of others → after ≡ named ++ (name ++ (codes " " ++ (line ++ codes "\n"))) → IsUtf8 others → IsNamedTo name text others after
named_more name text rest line others named after before cut grown utf8 =
    let put = name ++ (codes " " ++ (line ++ codes "\n")) in
    record {
      all = before.all ∙ ap (λ ls. named ++ named_text name ls) cut ∙ sym (append_assoc named put (named_text name (lines_of others))) ∙ ap (λ l. l ++ named_text name (lines_of others)) (sym grown);
      utf8 = utf8;
    }

pub named_all : (name text rest named : List ℕ) → IsNamedTo name text rest named → rest ≡ [] → named ≡ named_text name (lines_of text)
named_all name text rest named before none =
    sym (before.all ∙ ap (λ r. named ++ named_text name (lines_of r)) none ∙ ap (λ ls. named ++ named_text name ls) lines_of-nil ∙ append-nil named)
