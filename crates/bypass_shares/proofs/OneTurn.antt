-- What one turn makes of the assignments, and of what is left.
use Rattle.std.proofs.Common.{◌≡◌, ℕ, ◌-◌, Bool, true, false, if◌then◌else◌, T, List, Option, Some, None, is_some, find as find_first, refl, ap, sym, subst, ◌∙◌}
use Rattle.std.specs.FinMap.Entries.{find, find-put, is_sorted, is_sorted-put, put, same_entries}
use Rattle.std.specs.Option.{option_and_then, option_map, option_or}
use Rattle.std.specs.Ordering.{eq_by_cmp, nat_cmp}
use Rattle.lsr_facts.specs.OrderLaws.{key_exact, key_total}
use Rattle.lsr_facts.specs.Orders.{key_cmp}
use Rattle.lsr_facts.specs.declared.assignment.Assignment.{Assignment}
use Rattle.lsr_facts.specs.declared.key.Key.{Key}
use Rattle.bypass_shares.specs.declared.wish.Wish.{Wish}
use Rattle.bypass_shares.specs.Left.{AreLeft, left_at}
use Rattle.bypass_shares.specs.Merged.{with_rows}
use Rattle.bypass_shares.specs.Shares.{assigned_of, has_room, kept_for, new_for, stays, with_given}
use Rattle.bypass_shares.specs.SumLaws.{assigned_of-put}
use Rattle.bypass_shares.specs.TurnLaws.{IsGiven, kept_gives, new_gives}
use Rattle.bypass_shares.proofs.NextRows.{find-with_rows, is_sorted-with_rows}
use Rattle.bypass_shares.proofs.Taking.{left_at-taken, room_left}

-- a value in the first of two places, or in the second
pub some_first : {A : Type 0} (a b : Option A) → is_some a ≡ true → is_some (option_or a b) ≡ true
some_first None b is = cc
some_first (Some x) b is = refl

pub some_second : {A : Type 0} (a b : Option A) → is_some a ≡ false → is_some (option_or a b) ≡ is_some b
some_second None b is = refl
some_second (Some x) b is = cc

-- a value that is chosen first, where the next is put
chosen : {A : Type 0} (b : Bool) (given : A) (made rows : Option A) → option_or (if b then Some given else made) rows ≡ (if b then Some given else option_or made rows)
chosen true given made rows = refl
chosen false given made rows = refl

-- a row that is put among those that were made is put among all
pub put-made : (key : Key) (given : Assignment) (made rows : List (Key × Assignment)) → T (is_sorted key_cmp rows) → with_rows key_cmp (put key_cmp key given made) rows ≡ put key_cmp key given (with_rows key_cmp made rows)
put-made key given made rows h =
    same_entries key_cmp key_total key_exact (with_rows key_cmp (put key_cmp key given made) rows) (put key_cmp key given (with_rows key_cmp made rows))
    (is_sorted-with_rows key_cmp key_total (put key_cmp key given made) rows h)
    (is_sorted-put key_cmp key_total key given (with_rows key_cmp made rows) (is_sorted-with_rows key_cmp key_total made rows h))
    (λ q.
    find-with_rows key_cmp key_total q (put key_cmp key given made) rows
    ∙ ap (λ o. option_or o (find key_cmp q rows)) (find-put key_cmp key_total q key given made)
    ∙ chosen (eq_by_cmp key_cmp q key) given (find key_cmp q made) (find key_cmp q rows)
    ∙ sym (find-put key_cmp key_total q key given (with_rows key_cmp made rows) ∙ ap (λ o. if eq_by_cmp key_cmp q key then Some given else o) (find-with_rows key_cmp key_total q made rows)))

-- An LSP is given some: that is left which it leaves.
pub gave : (capacity : ℕ → ℕ) (left left_after : List (ℕ × ℕ)) (rows made made_after : List (Key × Assignment)) (wish : Key × Wish) (given : Assignment) → T (is_sorted key_cmp rows) → AreLeft capacity left (with_rows key_cmp made rows) → IsGiven key_cmp capacity (with_rows key_cmp made rows) wish given → made_after ≡ put key_cmp wish.0 given made → left_after ≡ put nat_cmp given.bypass (left_at left given.bypass - given.rate) left → AreLeft capacity left_after (with_rows key_cmp made_after rows) × (with_rows key_cmp made_after rows ≡ put key_cmp wish.0 given (with_rows key_cmp made rows))
gave capacity left left_after rows made made_after wish given h are_left may made_is left_is =
    let pairs = with_rows key_cmp made rows in
    let sorted = is_sorted-with_rows key_cmp key_total made rows h in
    let all : with_rows key_cmp made_after rows ≡ put key_cmp wish.0 given pairs = ap (λ m. with_rows key_cmp m rows) made_is ∙ put-made wish.0 given made rows h in
    let fits = room_left key_cmp capacity left pairs given.rate given.bypass are_left may.room in
    let after : AreLeft capacity (put nat_cmp given.bypass (left_at left given.bypass - given.rate) left) (put key_cmp wish.0 given pairs) = λ number.
    left_at-taken left given number (assigned_of number pairs) (assigned_of number (put key_cmp wish.0 given pairs)) (capacity number) fits (are_left number) (assigned_of-put key_cmp key_total number wish.0 given pairs sorted may.absent) in
    (subst (λ l. AreLeft capacity l (with_rows key_cmp made_after rows)) (sym left_is) (subst (AreLeft capacity (put nat_cmp given.bypass (left_at left given.bypass - given.rate) left)) (sym all) after), all)

-- what a turn leaves that gives this
abbrev pub IsTurn : (ℕ → ℕ) → List (ℕ × ℕ) → List (Key × Assignment) → List (Key × Assignment) → Key × Wish → Option Assignment → Type 0
IsTurn capacity left pairs before wish o = AreLeft capacity left pairs × (pairs ≡ with_given key_cmp capacity wish.0 o before)

-- the turn of an LSP that keeps what it had
pub kept-turn : (capacity : ℕ → ℕ) (left left_after : List (ℕ × ℕ)) (old rows made made_after : List (Key × Assignment)) (wish : Key × Wish) (had given : Assignment) → T (is_sorted key_cmp rows) → is_some (find key_cmp wish.0 (with_rows key_cmp made rows)) ≡ false → find key_cmp wish.0 old ≡ Some had → Some given ≡ stays key_cmp capacity (with_rows key_cmp made rows) wish.1 had → made_after ≡ put key_cmp wish.0 given made → left_after ≡ put nat_cmp given.bypass (left_at left given.bypass - given.rate) left → AreLeft capacity left (with_rows key_cmp made rows) → IsTurn capacity left_after (with_rows key_cmp made_after rows) (with_rows key_cmp made rows) wish (kept_for key_cmp capacity old (with_rows key_cmp made rows) wish)
kept-turn capacity left left_after old rows made made_after wish had given h none has stay made_is left_is are_left =
    let pairs = with_rows key_cmp made rows in
    let is : kept_for key_cmp capacity old pairs wish ≡ Some given =
    ap (λ b. if b then None else option_and_then (stays key_cmp capacity pairs wish.1) (find key_cmp wish.0 old)) none ∙ ap (option_and_then (stays key_cmp capacity pairs wish.1)) has ∙ sym stay in
    let done = gave capacity left left_after rows made made_after wish given h are_left (kept_gives key_cmp capacity old pairs wish given is) made_is left_is in
    (done.0, done.1 ∙ ap (λ o. with_given key_cmp capacity wish.0 o pairs) (sym is))

-- the turn of an LSP that is given some
pub new-turn : (capacity : ℕ → ℕ) (left left_after : List (ℕ × ℕ)) (rows made made_after : List (Key × Assignment)) (wish : Key × Wish) (given : Assignment) → T (is_sorted key_cmp rows) → is_some (find key_cmp wish.0 (with_rows key_cmp made rows)) ≡ false → Some given ≡ option_map (λ number. record { bypass = number; rate = wish.1.rate }) (find_first (has_room key_cmp capacity (with_rows key_cmp made rows) wish.1.rate) wish.1.bypasses) → made_after ≡ put key_cmp wish.0 given made → left_after ≡ put nat_cmp given.bypass (left_at left given.bypass - given.rate) left → AreLeft capacity left (with_rows key_cmp made rows) → IsTurn capacity left_after (with_rows key_cmp made_after rows) (with_rows key_cmp made rows) wish (new_for key_cmp capacity (with_rows key_cmp made rows) wish)
new-turn capacity left left_after rows made made_after wish given h none found made_is left_is are_left =
    let pairs = with_rows key_cmp made rows in
    let is : new_for key_cmp capacity pairs wish ≡ Some given =
    ap (λ b. if b then None else option_map (λ number. record { bypass = number; rate = wish.1.rate }) (find_first (has_room key_cmp capacity pairs wish.1.rate) wish.1.bypasses)) none ∙ sym found in
    let done = gave capacity left left_after rows made made_after wish given h are_left (new_gives key_cmp capacity pairs wish given is) made_is left_is in
    (done.0, done.1 ∙ ap (λ o. with_given key_cmp capacity wish.0 o pairs) (sym is))
