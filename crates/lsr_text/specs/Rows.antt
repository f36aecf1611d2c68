-- What `show` prints of reservations, of the label table, of links and of bypasses: a line for each row.
use Rattle.std.specs.Prelude.{ℕ, List, [], ◌++◌, codes, flat_map, Option, Some, None, Bool, true, false}
use Rattle.std.specs.Fmt.{decimal}
use Rattle.hex.specs.Hex.{encode_lower}
use Rattle.lsr_facts.specs.declared.bypass.Bypass.{Bypass}
use Rattle.lsr_facts.specs.declared.key.Key.{Key}
use Rattle.lsr_facts.specs.declared.resv_fact.ResvFact.{ResvFact}
use Rattle.lsr_facts.specs.declared.resv_fact.ResvStyle.{ResvStyle}
use Rattle.lsr_facts.specs.declared.resv_fact.ResvStyle.TheVariants as styles
use Rattle.forwarding_table.specs.declared.action.Action.{Action}
use Rattle.forwarding_table.specs.declared.action.Action.TheVariants as actions
use Rattle.object_text.specs.Traffic.{rate_bytes}
use Rattle.lsr_text.specs.Shown.{key_text}

-- a number after a space
abbrev pub next_number : ℕ → List ℕ
next_number n = codes " " ++ decimal n

-- how the LSPs of a session reserve
abbrev pub style_text : ResvStyle → List ℕ
style_text styles.FixedFilter = codes "ff"
style_text styles.SharedExplicit = codes "se"

-- `resv KEY LINK ff|se RATE LABEL`: the link that it is on, its style, the rate that it asks for as the hexadecimal
-- digits of the rate's word, and the label that the next hop gave
abbrev pub resv_line : Key × ResvFact → List ℕ
resv_line row =
    codes "resv " ++ (key_text row.0 ++ (next_number row.1.link ++ (codes " " ++ (style_text row.1.style ++ (codes " "
    ++ (encode_lower (rate_bytes row.1.flowspec) ++ (next_number row.1.label ++ codes "\n")))))))

-- a line for each reservation, in their order
abbrev pub resvs_text : List (Key × ResvFact) → List ℕ
resvs_text resvs = flat_map resv_line resvs

-- the label below the one on top, where there is one
abbrev pub pushed_below : Option ℕ → List ℕ
pushed_below None = []
pushed_below (Some inner) = next_number inner

-- what is done with a label, or with a payload at the head of a tunnel; the label on top stands after the one below it
abbrev pub action_words : Action → List ℕ
action_words (actions.Swap label link) = codes "swap" ++ (next_number label ++ next_number link)
action_words (actions.SwapPush inner outer link) = codes "swappush" ++ (next_number inner ++ (next_number outer ++ next_number link))
action_words actions.Pop = codes "pop"
action_words (actions.PushHead inner label link) = codes "push" ++ (pushed_below inner ++ (next_number label ++ next_number link))

-- `LABEL swap L LINK`, `LABEL swappush INNER OUTER LINK` or `LABEL pop`
abbrev pub label_line : ℕ → Action → List ℕ
label_line label action = decimal label ++ (codes " " ++ (action_words action ++ codes "\n"))

-- a line for each label and its action, in their order
abbrev pub table_text : List (ℕ × Action) → List ℕ
table_text rows = flat_map (λ row. label_line row.0 row.1) rows

-- `tunnel N push L LINK`, or `tunnel N push INNER OUTER LINK` while a repair is in use
abbrev pub head_line : ℕ → Action → List ℕ
head_line tunnel action = codes "tunnel" ++ (next_number tunnel ++ (codes " " ++ (action_words action ++ codes "\n")))

-- whether a link is up, or a bypass
abbrev pub state_word : Bool → List ℕ
state_word true = codes "up"
state_word false = codes "down"

-- numbers, each after a space
abbrev pub sum_words : List ℕ → List ℕ
sum_words sums = flat_map next_number sums

-- `link N up|down LIMIT R0 .. R7`: the link's limit, and what is reserved on it at each priority, in bytes per second
abbrev pub link_line : ℕ → Bool → ℕ → List ℕ → List ℕ
link_line number is_up limit sums =
    codes "link" ++ (next_number number ++ (codes " " ++ (state_word is_up ++ (next_number limit ++ (sum_words sums ++ codes "\n")))))

-- `bypass N TUNNEL LINK up|down USES CAPACITY SUM`: the tunnel that it runs in, the link that it protects, whether it is
-- up, how many repairs use it, its capacity, and how much of that is assigned, both in bytes per second
abbrev pub bypass_line : ℕ × Bypass → Bool → ℕ → ℕ → List ℕ
bypass_line row is_up uses assigned =
    codes "bypass" ++ (next_number row.0 ++ (next_number row.1.tunnel ++ (next_number row.1.link ++ (codes " " ++ (state_word is_up
    ++ (next_number uses ++ (next_number row.1.capacity ++ (next_number assigned ++ codes "\n"))))))))
