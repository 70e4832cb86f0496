mod Pictures
mod SurelyRight
pub mod SameWay
