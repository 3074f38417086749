-- Each digit more makes the number ten times as large, and stays within 64 bits.
use Rattle.std.proofs.Common.{◌≡◌, ℕ, ◌+◌, ◌-◌, ◌*◌, ◌<◌, ◌≤◌, take, length, get_or, map, Some, rules, tests, refl, ◌∙◌}
use Rattle.std.proofs.lemmas.Fn.{serves_by}
use Rattle.std.proofs.lemmas.Iterator.{YieldsList-from_slice}
use Rattle.std.proofs.lemmas.Iterator.Consumers.{fold_from_yields_List, YieldsList-so_far, YieldsList-turn}
use Rattle.items.specs.Articles.{digits}
use Rattle.items.specs.Gtins.{number_of}
use Rattle.items.proofs.Digits.{number_folds, number_of_more, digit_at, number_of_small}
use Rattle.items.proofs.Articles.{count_short}
use Rattle.items.proofs.article.Digits.number.Goals as goal

pub fold-requires-clause-callable : goal.fold-requires-clause-callable
fold-requires-clause-callable c =
    let bytes = c.args.self.now.bytes.now in
    serves_by _ (λ xs q. q.1 ≡ number_of (digits (map (λ y. y.now) xs))) (λ xs q x v j k. let more = number_of_more (λ y. y.now) xs x in search rules) _ _ _ _ refl
    (λ xs t q x u ran step j.
    let road = YieldsList-from_slice bytes cc in
    let so_far : map (λ y. y.now) xs ≡ take (length xs) bytes = YieldsList-so_far road xs t ran in
    let turn : (length xs < length bytes) × (x.now ≡ get_or bytes (length xs) x.now) = YieldsList-turn road xs t ran (Some x) u x refl step in
    let digit : (48 ≤ x.now) × (x.now ≤ 57) = digit_at bytes c.args.self.now.digits _ _ turn in
    let small : number_of (digits (take (length xs) bytes)) < 10000000000000 = number_of_small bytes c.args.self.now.digits _ turn.0 (count_short _ _ c.args.self.now.counted) in
    let less : q.1 < 10000000000000 = rw (j, so_far) small in
    search rules)

pub returns : goal.returns
returns c =
    fold_from_yields_List _ (λ (n b : ℕ). n * 10 + (b - 48)) 0 _ c.fold.ensures.ran (YieldsList-from_slice c.args.self.now.bytes.now cc) (λ a x b q k. search (rules, tests))
    ∙ number_folds c.args.self.now.bytes.now 0
