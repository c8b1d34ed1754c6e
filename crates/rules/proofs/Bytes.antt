-- The byte of each reply.
use mathlib.Core.Path.{◌≡◌, refl}
use Rattle.rules.specs.declared.replies.Reply.{Reply}
use Rattle.rules.specs.Replies.{reply_number}

pub reply_bytes : (reply_number Reply.Always ≡ 0) × (reply_number Reply.Never ≡ 1) × (reply_number Reply.Open ≡ 2)
reply_bytes = (refl, refl, refl)
