-- The two kinds of list keep what a kind owes.
use Rattle.std.proofs.Common.{refl}
use Rattle.links.specs.Kinds.{Lawful}
use Rattle.table.specs.Fields.{counter_links, bucket_links}

pub counter_lawful : {T : Type 0} → Lawful (counter_links {T = T})
counter_lawful =
    record { next_next = λ v x. refl; prev_next = λ v x. refl; prev_prev = λ v x. refl; next_prev = λ v x. refl }

pub bucket_lawful : {T : Type 0} → Lawful (bucket_links {T = T})
bucket_lawful =
    record { next_next = λ v x. refl; prev_next = λ v x. refl; prev_prev = λ v x. refl; next_prev = λ v x. refl }
