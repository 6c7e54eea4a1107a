-- Parts of JSON objects that are put at once.
use Rattle.wasm_output.proofs.Common.{◌≡◌, ℕ, ◌<◌, false, refl, arith, List, ◌++◌, codes, ◌^◌, decimal, list_any, is_escaped, after_all}
use Rattle.wasm_output.proofs.Common.{Leads, object_end, Space, Spot, Ended, AtValue}
use Rattle.wasm_output.specs.Json.{item_start, member_start, name_start, number_members}
use Rattle.wasm_output.specs.Numbers.{word_of}
use Rattle.wasm_output.specs.declared.objects.Spot.TheVariants.{InText, Outside, InName}
use Rattle.wasm_output.proofs.Json.{after_all-append, completes, leads_from, number_leads, plain_run_stays}

-- what leads to a spot, and what leads on from there
leads_on : (old mid new : Spot) (xs ys : List ℕ) → Leads old xs mid → Leads mid ys new → Leads old (xs ++ ys) new
leads_on old mid new xs ys first later s i = rw (after_all-append s xs ys) (later (after_all s xs) (first s i))

pub start_leads : (spot : Spot) → Leads spot (name_start spot) InName
start_leads spot s i = grind arith

pub end_leads : (spot : Spot) → Leads spot (object_end spot) Outside
end_leads spot s i = completes spot s i

colon_leads : Leads InName (codes "\":") AtValue
colon_leads s i = rw i refl

-- a name without escapes
pub member_leads : (spot : Spot) (name : List ℕ) → list_any is_escaped name ≡ false → Leads spot (member_start spot name) AtValue
member_leads spot name plain =
    leads_on spot InName AtValue (name_start spot) (name ++ codes "\":") (start_leads spot)
    (leads_on InName InName AtValue name (codes "\":") (plain_run_stays name plain InName refl) colon_leads)

-- and the number that follows it
pub number_member_leads : (spot : Spot) (name : List ℕ) (number : ℕ) → list_any is_escaped name ≡ false → number < 2 ^ 64
    → Leads spot (member_start spot name ++ decimal number) Ended
number_member_leads spot name number plain h =
    leads_on spot AtValue Ended (member_start spot name) (decimal number) (member_leads spot name plain) (number_leads number h)

level_leads : Leads Outside (codes "{\"level\":") AtValue
level_leads s i = rw i refl

at_leads : Leads Ended (codes ",\"at\":") AtValue
at_leads s i = grind arith

pub item_leads : (spot : Spot) (level offset : ℕ) → level < 2 ^ 64 → offset < 2 ^ 64 → Leads spot (item_start spot level offset) Ended
item_leads spot level offset h k =
    let further = codes ",\"at\":" ++ decimal offset in
    leads_on spot Outside Ended (object_end spot) (codes "{\"level\":" ++ (decimal level ++ further)) (end_leads spot)
    (leads_on Outside AtValue Ended (codes "{\"level\":") (decimal level ++ further) level_leads
    (leads_on AtValue Ended Ended (decimal level) further (number_leads level h)
    (leads_on Ended AtValue Ended (codes ",\"at\":") (decimal offset) at_leads (number_leads offset k))))

space_leads : Leads InName (codes "space\":\"") InText
space_leads s i = rw i refl

word_leads : (space : Space) → Leads InText (word_of space) InText
word_leads space s i = grind arith

index_leads : Leads InText (codes "\",\"number\":") AtValue
index_leads s i = rw i refl

pub number_members_lead : (spot : Spot) (space : Space) (index : ℕ) → index < 2 ^ 64 → Leads spot (number_members spot space index) Ended
number_members_lead spot space index h =
    let further = codes "\",\"number\":" ++ decimal index in
    leads_on spot InName Ended (name_start spot) (codes "space\":\"" ++ (word_of space ++ further)) (start_leads spot)
    (leads_on InName InText Ended (codes "space\":\"") (word_of space ++ further) space_leads
    (leads_on InText InText Ended (word_of space) further (word_leads space)
    (leads_on InText AtValue Ended (codes "\",\"number\":") (decimal index) index_leads (number_leads index h))))

quote_leads : Leads AtValue (codes "\"") InText
quote_leads s i = rw i refl

-- a text without escapes
pub text_leads : (spot : Spot) (text : List ℕ) → spot ≡ AtValue → list_any is_escaped text ≡ false → Leads spot (codes "\"" ++ text) InText
text_leads spot text e plain =
    leads_from spot AtValue InText (codes "\"" ++ text) e
    (leads_on AtValue InText InText (codes "\"") text quote_leads (plain_run_stays text plain InText refl))
