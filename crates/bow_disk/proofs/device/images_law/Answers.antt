use Rattle.bow_disk.specs.Shapes.{now_image, crash_image}
use Rattle.bow_disk.proofs.device.images_law.Goals as goal

pub returns : goal.returns
returns c = λ size count content shaped. (now_image size count content shaped, λ image crash. crash_image size count content image shaped crash)
